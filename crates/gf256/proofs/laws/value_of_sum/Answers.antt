-- The law is a lemma.
use Rattle.gf256.proofs.Horner.{value-added_row}
use Rattle.gf256.proofs.laws.value_of_sum.Goals as goal

pub returns : goal.returns
returns w by x cs ds lb lx bc bd same = value-added_row by cs ds x lb bc bd lx same
