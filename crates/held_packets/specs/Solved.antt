-- The source rows that have given encoding symbols at given places: the one polynomial through the symbols, at the
-- places of the source symbols (RFC 5510, section 8.2).
use Rattle.std.specs.Prelude.{ℕ, List, length}
use Rattle.gf256.specs.Polynomial.{power}
use Rattle.rs_code.specs.Interpolation.{weighed}
use Rattle.rs_code.specs.SourceRows.{column}
use Rattle.rs_code.specs.Weights.{point_of}
use Rattle.wire_bytes.specs.Below.{list_below}

-- the value at x of the polynomial of as many coefficients as places that has these values at the places' points
unfoldable pub interpolated : List ℕ → List ℕ → ℕ → ℕ
interpolated places values x = weighed (point_of places) (length places) values (length places) x

-- byte i of the column with these symbols at these places
abbrev pub source_byte : List ℕ → List ℕ → ℕ → ℕ
source_byte places values i = interpolated places values (power i)

-- source row i of the block with these rows of `size` bytes at these places
unfoldable pub source_row : ℕ → List ℕ → List (List ℕ) → ℕ → List ℕ
source_row size places rows i = list_below size (λ at. source_byte places (column rows at) i)
