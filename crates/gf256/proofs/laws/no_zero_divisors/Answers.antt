-- The law is a lemma.
use Rattle.gf256.proofs.Products.{no_divisors}
use Rattle.gf256.proofs.laws.no_zero_divisors.Goals as goal

pub returns : goal.returns
returns w a b la lb null = no_divisors a b la lb null
