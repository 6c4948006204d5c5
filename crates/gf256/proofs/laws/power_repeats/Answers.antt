-- The law is a lemma.
use Rattle.gf256.proofs.Powers.{power_mod}
use Rattle.gf256.proofs.laws.power_repeats.Goals as goal

pub returns : goal.returns
returns w j = power_mod j
