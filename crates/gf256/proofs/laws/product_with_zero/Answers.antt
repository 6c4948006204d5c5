-- The law is a lemma.
use Rattle.gf256.proofs.Products.{product_zero}
use Rattle.gf256.proofs.laws.product_with_zero.Goals as goal

pub returns : goal.returns
returns w a la = product_zero a la
