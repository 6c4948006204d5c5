-- What of the weights of some places is the same wherever a polynomial's value is wanted.
use Rattle.std.specs.Prelude.{ℕ, ◌≡◌, ◌<◌, List, length, slice_index}
use Rattle.gf256.specs.Field.{product}
use Rattle.rs_code.specs.Interpolation.{others}
use Rattle.rs_code.specs.Weights.{point_of}

-- the share is the inverse of the product of the distances of the point of position i from the other points
abbrev pub IsShare : List ℕ → ℕ → ℕ → Type 0
IsShare places i share = product (others (point_of places) (length places) i (point_of places i)) share ≡ 1

-- each position has its share
pub record AreShares (places shares : List ℕ) : Type 0 where
  pub count : length shares ≡ length places
  pub inverses : (i : ℕ) → i < length places → IsShare places i (slice_index shares i)
