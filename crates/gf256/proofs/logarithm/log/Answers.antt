-- The tested entry of the element.
use Rattle.std.proofs.Common.{◌≡◌, get_or, ap, ◌∙◌, arith}
use Rattle.gf256.specs.Polynomial.{power}
use Rattle.gf256.specs.declared.logarithm.TheConstants.{LOGARITHMS}
use Rattle.gf256.proofs.Logarithms.{logarithm_is}
use Rattle.gf256.proofs.logarithm.log.Goals as goal

pub returns-clause-power : goal.returns-clause-power
returns-clause-power c =
    ap power (c.from-2.ensures ∙ ap (λ i. get_or LOGARITHMS i 0) c.from.ensures) ∙ (logarithm_is c.args.a.0 (omega arith) c.requires).0

pub returns-clause-below : goal.returns-clause-below
returns-clause-below c =
    let is : c.from-2.result ≡ get_or LOGARITHMS c.args.a.0 0 = c.from-2.ensures ∙ ap (λ i. get_or LOGARITHMS i 0) c.from.ensures in
    omega (arith, (logarithm_is c.args.a.0 (omega arith) c.requires).1)
