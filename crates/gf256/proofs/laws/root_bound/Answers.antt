-- The law is a lemma.
use Rattle.gf256.proofs.Roots.{few_roots}
use Rattle.gf256.proofs.laws.root_bound.Goals as goal

pub returns : goal.returns
returns w cs rs bc br apart roots some = few_roots cs rs bc br apart roots some
