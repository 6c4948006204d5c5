-- The law is a lemma.
use Rattle.gf256.proofs.Products.{product_comm}
use Rattle.gf256.proofs.laws.product_commutative.Goals as goal

pub returns : goal.returns
returns w a b la lb = product_comm a b la lb
