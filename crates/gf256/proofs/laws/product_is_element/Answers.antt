-- The law is a lemma.
use Rattle.gf256.proofs.Products.{product_lt}
use Rattle.gf256.proofs.laws.product_is_element.Goals as goal

pub returns : goal.returns
returns w a b la lb = product_lt a b la
