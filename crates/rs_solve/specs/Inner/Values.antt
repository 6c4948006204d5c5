-- Values of the one polynomial that has given values at places.
use Rattle.std.specs.Prelude.{ℕ, ◌≡◌, ◌<◌, List, length, slice_index}
use Rattle.gf256.specs.Polynomial.{AreBytes, power, value}
use Rattle.rs_code.specs.SourceRows.{column, cut}
use Rattle.rs_code.specs.Weights.{point_of}

-- v is the value at the point of m of each polynomial, of as many coefficients as there are places, that has these
-- bytes at the places' points
abbrev pub IsValueAt : List ℕ → List ℕ → ℕ → ℕ → Type 0
IsValueAt places bytes m v = (coefs : List ℕ) → AreBytes coefs → length coefs ≡ length places
    → ((i : ℕ) → i < length places → value coefs (point_of places i) ≡ slice_index bytes i) → v ≡ value coefs (power m)

-- the row is, byte by byte, the value at m of the polynomials that have the rows' bytes at the places
pub record IsRowAt (size : ℕ) (places rows : List ℕ) (m : ℕ) (row : List ℕ) : Type 0 where
  pub long : length row ≡ size
  pub values : (at : ℕ) → at < size → IsValueAt places (column (cut (length places) size rows) at) m (slice_index row at)
