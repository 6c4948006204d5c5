-- The law is a lemma.
use Rattle.gf256.proofs.Products.{product_assoc}
use Rattle.gf256.proofs.laws.product_associative.Goals as goal

pub returns : goal.returns
returns w a b c la lb lc = product_assoc a b c la lb
