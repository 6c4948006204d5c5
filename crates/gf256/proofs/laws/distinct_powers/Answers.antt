-- The law is a lemma.
use Rattle.gf256.proofs.Powers.{power_injective}
use Rattle.gf256.proofs.laws.distinct_powers.Goals as goal

pub returns : goal.returns
returns w i j li lj same = power_injective i j li lj same
