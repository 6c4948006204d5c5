-- One more factor.
use Rattle.std.proofs.Common.{refl, sym, ap, ap₂, ◌∙◌, add-one}
use Rattle.gf256.specs.Field.{product}
use Rattle.rs_code.specs.Interpolation.{others}
use Rattle.rs_code.specs.Weights.{point_of}
use Rattle.rs_code.proofs.distances.over_others.Goals as goal

pub loop-m-init : goal.loop-m-init
unfolding others
loop-m-init c = refl

pub loop-m-preserved : goal.loop-m-preserved
unfolding others
loop-m-preserved c =
    c.mul-product.ensures ∙ ap₂ product c.loop-m.invariant c.factor_of.ensures
    ∙ ap (λ n. others (point_of c.args.places.now) n c.args.i c.args.x.0) (sym (add-one c.loop-m.m))
