-- The shares so far, of which `last` is the last.
use Rattle.std.proofs.Common.{◌≡◌, ◌-◌, ◌<◌, ℕ, length, get_or}
use Rattle.gf256.specs.Field.{product}
use Rattle.gf256.specs.Polynomial.{power}
use Rattle.rs_code.specs.Interpolation.{others}
use Rattle.rs_code.proofs.places.source_shares.Given as goal

abbrev pub invariant-loop-i : goal.invariant-loop-i
invariant-loop-i l = record {
  many : length l.shares.items ≡ l.i;
  last : product (others power l.k (l.i - 1) (power (l.i - 1))) l.last.0 ≡ 1;
  shares : (j : ℕ) → j < l.i → product (others power l.k j (power j)) (get_or l.shares.items j 0) ≡ 1;
}
