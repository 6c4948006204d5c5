-- The law is a lemma.
use Rattle.rs_code.proofs.UniqueWeights.{one_list}
use Rattle.rs_code.proofs.laws.one_list_of_weights.Goals as goal

pub returns : goal.returns
returns w places v u at are vs us = one_list places v u at are vs us
