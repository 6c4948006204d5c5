-- The weights with which the values at some places make the value at another (RFC 5510, section 8.2). A place is
-- an encoding symbol ID, and its point is that power of alpha.
use Rattle.std.specs.Prelude.{ℕ, ◌≡◌, ◌≤◌, ◌<◌, List, length, slice_index, All}
use Rattle.gf256.specs.Field.{product}
use Rattle.gf256.specs.Polynomial.{AreBytes, AreDifferent, power, value}
use Rattle.rs_code.specs.Interpolation.{field_sum}

-- there are 1 to 255 places, no two are equal, and each is below 255
pub record ArePlaces (places : List ℕ) : Type 0 where
  pub some : 1 ≤ length places
  pub most : length places ≤ 255
  pub different : AreDifferent places
  pub below : All (λ p. p < 255) places

-- the point of the place in position i
abbrev pub point_of : List ℕ → ℕ → ℕ
point_of places i = power (slice_index places i)

-- the sum of the first n bytes, each times its weight
unfoldable pub weighed_bytes : List ℕ → List ℕ → ℕ → ℕ
weighed_bytes weights bytes n = field_sum n (λ i. product (slice_index weights i) (slice_index bytes i))

-- the weights, one for each place, are elements; and each polynomial of as many coefficients as there are places
-- has at the point of `at` the sum of its values at the places' points, each times its weight
pub record AreWeights (places : List ℕ) (at : ℕ) (weights : List ℕ) : Type 0 where
  pub count : length weights ≡ length places
  pub bytes : AreBytes weights
  pub sums : (coefs : List ℕ) → AreBytes coefs → length coefs ≡ length places
      → value coefs (power at) ≡ field_sum (length places) (λ i. product (slice_index weights i) (value coefs (point_of places i)))
