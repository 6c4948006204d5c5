-- The inverse is the power 254, and each other one is equal to it.
use Rattle.std.proofs.Common.{◌≢◌, ◌∙◌, sym}
use Rattle.gf256.specs.Field.{inverse}
use Rattle.gf256.proofs.Products.{product_inverse, inverse_lt, inverse_unique, some_factor}
use Rattle.gf256.proofs.laws.product_inverse.Goals as goal

pub returns-clause-exists : goal.returns-clause-exists
returns-clause-exists w a la some = (inverse a, inverse_lt a la, product_inverse a la some)

pub returns-clause-unique : goal.returns-clause-unique
returns-clause-unique w a b c la lb lc one_b one_c =
    let some : a ≢ 0 = some_factor a b lb one_b in
    inverse_unique a b la lb some one_b ∙ sym (inverse_unique a c la lc some one_c)
