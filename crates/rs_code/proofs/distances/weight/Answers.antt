-- The inverse of the distance cancels it in the product.
use Rattle.std.proofs.Common.{◌<◌, ap, ◌∙◌, arith}
use Rattle.gf256.specs.Field.{product}
use Rattle.gf256.proofs.Public.{product_assoc, product_one}
use Rattle.rs_code.proofs.distances.weight.Goals as goal

pub returns-else-distance-eq0-clause-other : goal.returns-else-distance-eq0-clause-other
returns-else-distance-eq0-clause-other c rest less some is =
    let back = c.inv.result.0 in
    let distance : c.args.distance.0 < 256 = omega arith in
    c.mul-else-distance-eq0.ensures
    ∙ ap (λ t. product t c.args.share.0)
    (c.mul.ensures ∙ ap (λ t. product t back) is ∙ product_assoc rest c.args.distance.0 back less distance ∙ ap (product rest) c.inv.ensures ∙ product_one rest less)
