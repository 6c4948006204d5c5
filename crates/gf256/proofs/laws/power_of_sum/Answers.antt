-- The law is a lemma.
use Rattle.gf256.proofs.Powers.{power_add}
use Rattle.gf256.proofs.laws.power_of_sum.Goals as goal

pub returns : goal.returns
returns w i j = power_add i j
