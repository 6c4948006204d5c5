-- The product of distances does not vanish at the place's own point.
use Rattle.std.proofs.Common.{length, sym, ap, ◌∙◌, arith}
use Rattle.gf256.specs.Field.{product}
use Rattle.rs_code.specs.Interpolation.{others}
use Rattle.rs_code.specs.Weights.{point_of}
use Rattle.rs_code.proofs.Interpolate.{others_some}
use Rattle.rs_code.proofs.Weighing.{places_are_points}
use Rattle.rs_code.proofs.distances.share.Goals as goal

pub inv-requires : goal.inv-requires
inv-requires c null =
    let p = point_of c.args.places.now in
    let k = length c.args.places.now in
    others_some k p k c.args.i (places_are_points c.args.places.now c.requires.places) (omega arith) c.requires.within
    (sym (c.over_others.ensures ∙ ap (others p k c.args.i) c.point.ensures) ∙ null)

pub returns : goal.returns
returns c =
    ap (λ d. product d c.inv.result.0) (sym (c.over_others.ensures ∙ ap (others (point_of c.args.places.now) (length c.args.places.now) c.args.i) c.point.ensures))
    ∙ c.inv.ensures
