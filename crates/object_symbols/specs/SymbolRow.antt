-- The one row of bytes that is an encoding symbol of source rows (RFC 5510, sections 8.2 and 8.4).
use Rattle.std.specs.Prelude.{ℕ, List, length}
use Rattle.wire_bytes.specs.Below.{list_below}
use Rattle.gf256.specs.Polynomial.{power}
use Rattle.rs_code.specs.Interpolation.{weighed}
use Rattle.rs_code.specs.SourceRows.{column}

-- the one symbol j of a column of bytes: the value at alpha^j of the polynomial whose value at alpha^i is byte i
unfoldable pub symbol_in : List ℕ → ℕ → ℕ
symbol_in bytes j = weighed power (length bytes) bytes (length bytes) (power j)

-- the row of `size` bytes that is symbol j of the rows: it is so at each byte place
unfoldable pub symbol_row : List (List ℕ) → ℕ → ℕ → List ℕ
symbol_row rows size j = list_below size (λ at. symbol_in (column rows at) j)
