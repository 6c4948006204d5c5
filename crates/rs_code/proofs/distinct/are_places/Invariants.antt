-- The places below i are below 255 and different.
use Rattle.std.proofs.Common.{◌≢◌, ◌<◌, ℕ, get_or}
use Rattle.rs_code.proofs.distinct.are_places.Given as goal

abbrev pub invariant-loop-i : goal.invariant-loop-i
invariant-loop-i l = record {
  different : (a b : ℕ) → a < b → b < l.i → get_or l.places a 0 ≢ get_or l.places b 0;
  below : (a : ℕ) → a < l.i → get_or l.places a 0 < 255;
}
