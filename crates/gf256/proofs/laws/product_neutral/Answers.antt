-- The law is a lemma.
use Rattle.gf256.proofs.Products.{product_one}
use Rattle.gf256.proofs.laws.product_neutral.Goals as goal

pub returns : goal.returns
returns w a la = product_one a la
