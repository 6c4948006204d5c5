-- The exponents of an element and of its inverse make 255, whose power is 1.
use Rattle.std.proofs.Common.{◌≡◌, ◌+◌, ◌-◌, ℕ, sym, ap, ap₂, ◌∙◌, arith}
use Rattle.gf256.specs.Field.{product}
use Rattle.gf256.specs.Polynomial.{power}
use Rattle.gf256.proofs.Tables.{power_255}
use Rattle.gf256.proofs.Powers.{power_add}
use Rattle.gf256.proofs.element.inv.Goals as goal

pub returns : goal.returns
returns c =
    let l : ℕ = c.log.result in
    let is : c.log.result + (255 - c.log.result) ≡ 255 = omega (arith, c.log.ensures.below) in
    ap₂ product (sym c.log.ensures.power) c.power_at.ensures ∙ sym (power_add l (255 - l)) ∙ ap power is ∙ power_255
