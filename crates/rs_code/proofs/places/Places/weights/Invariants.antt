-- The weights so far.
use Rattle.std.proofs.Common.{◌≡◌, ◌<◌, ℕ, length, get_or}
use Rattle.rs_code.specs.Interpolation.{weight}
use Rattle.rs_code.specs.Weights.{point_of}
use Rattle.rs_code.proofs.places.Places.weights.Given as goal

abbrev pub invariant-loop-i : goal.invariant-loop-i
invariant-loop-i l = record {
  many : length l.out.items ≡ l.i;
  weights : (j : ℕ) → j < l.i → get_or l.out.items j 0 ≡ weight (point_of l.places) (length l.places) j l.x.0;
}
