-- The power of the sum of two logarithms is the product; a product with zero is zero.
use Rattle.std.proofs.Common.{sym, ap, ap₂, ◌∙◌, ⊎_elim, arith}
use Rattle.gf256.specs.Field.{product}
use Rattle.gf256.proofs.Products.{zero_product, product_zero}
use Rattle.gf256.proofs.Powers.{power_add}
use Rattle.gf256.proofs.element.mul.Goals as goal

pub returns-then-b-eq0 : goal.returns-then-b-eq0
returns-then-b-eq0 c =
    ⊎_elim (λ null. sym (ap (λ a. product a c.args.b.0) null ∙ zero_product c.args.b.0 (omega arith)))
    (λ null. sym (ap (product c.args.a.0) null.1 ∙ product_zero c.args.a.0 (omega arith)))
    c.if-b-eq0.either

pub returns-else-b-eq0 : goal.returns-else-b-eq0
returns-else-b-eq0 c =
    c.power_at.ensures ∙ power_add c.log.result c.log-else-b-eq0.result ∙ ap₂ product c.log.ensures.power c.log-else-b-eq0.ensures.power
