-- The law is a lemma.
use Rattle.gf256.proofs.Products.{product_sum}
use Rattle.gf256.proofs.laws.product_distributive.Goals as goal

pub returns : goal.returns
returns w a b c la lb lc = product_sum a b c la lb lc
