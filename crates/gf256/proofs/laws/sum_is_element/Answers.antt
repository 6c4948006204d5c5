-- The law is a lemma.
use Rattle.gf256.proofs.Sums.{sum_lt}
use Rattle.gf256.proofs.laws.sum_is_element.Goals as goal

pub returns : goal.returns
returns w a b la lb = sum_lt a b la lb
