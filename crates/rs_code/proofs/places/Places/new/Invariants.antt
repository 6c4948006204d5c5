-- The places so far, each with its share.
use Rattle.std.proofs.Common.{◌≡◌, ◌<◌, ℕ, length, get_or, take}
use Rattle.rs_code.specs.Inner.Shares.{IsShare}
use Rattle.rs_code.proofs.places.Places.new.Given as goal

abbrev pub invariant-loop-i : goal.invariant-loop-i
invariant-loop-i l = record {
  held : l.held.items ≡ take l.i l.places;
  many : length l.shares.items ≡ l.i;
  shares : (j : ℕ) → j < l.i → IsShare l.places j (get_or l.shares.items j 0);
}
