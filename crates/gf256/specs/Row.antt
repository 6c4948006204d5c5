-- Rows of elements, added element by element.
use Rattle.std.specs.Prelude.{ℕ, List, [], ◌∷◌, bit_xor}
use Rattle.gf256.specs.Field.{product}

-- the row dst, and to each element added `by` times that of the row src at its place
abbrev pub added_row : ℕ → List ℕ → List ℕ → List ℕ
added_row by [] dst = dst
added_row by (s ∷ src) [] = []
added_row by (s ∷ src) (d ∷ dst) = bit_xor d (product by s) ∷ added_row by src dst
