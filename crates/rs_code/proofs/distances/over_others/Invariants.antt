-- The product so far.
use Rattle.std.proofs.Common.{◌≡◌}
use Rattle.rs_code.specs.Interpolation.{others}
use Rattle.rs_code.specs.Weights.{point_of}
use Rattle.rs_code.proofs.distances.over_others.Given as goal

abbrev pub invariant-loop-m : goal.invariant-loop-m
invariant-loop-m l = l.product.0 ≡ others (point_of l.places) l.m l.fn.i l.fn.x.0
