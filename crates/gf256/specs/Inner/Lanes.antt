-- Tables of sixteen products, by which a vector of elements is multiplied.
use Rattle.std.specs.Prelude.{ℕ, ◌≡◌, ◌*◌, ◌<◌, List, slice_index}
use Rattle.gf256.specs.Field.{product}

-- the products of `by` with the low halves of bytes, and with their high halves
pub record AreProducts (by : ℕ) (lows highs : List ℕ) : Type 0 where
  pub low : (j : ℕ) → j < 16 → slice_index lows j ≡ product by j
  pub high : (j : ℕ) → j < 16 → slice_index highs j ≡ product by (16 * j)
