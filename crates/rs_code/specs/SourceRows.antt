-- The source rows of a block, and the rows of its symbols (RFC 5510, section 8.4).
use Rattle.std.specs.Prelude.{ℕ, ◌≡◌, ◌≤◌, ◌<◌, ◌*◌, List, length, map, slice_index}
use Rattle.gf256.specs.Polynomial.{AreBytes}
pub use Rattle.wire_bytes.specs.Rows.{cut}
use Rattle.rs_code.specs.Symbol.{IsSymbol}

-- k source rows of `size` bytes, one after another
pub record Rows : Type 0 where
  pub k : ℕ
  pub size : ℕ
  pub bytes : List ℕ

-- there is a row, it has a byte, and the bytes are all of the rows
pub record AreRows (rows : Rows) : Type 0 where
  pub some : 1 ≤ rows.k
  pub wide : 1 ≤ rows.size
  pub whole : length rows.bytes ≡ rows.k * rows.size
  pub bytes : AreBytes rows.bytes

-- the rows of a block
abbrev pub rows_of : Rows → List (List ℕ)
rows_of rows = cut rows.k rows.size rows.bytes

-- the byte at a place of each row
abbrev pub column : List (List ℕ) → ℕ → List ℕ
column rows at = map (λ row. slice_index row at) rows

-- the row of `size` bytes is symbol j of the rows: it is so at each byte place
pub record IsSymbolRow (rows : List (List ℕ)) (size j : ℕ) (row : List ℕ) : Type 0 where
  pub full : length row ≡ size
  pub symbols : (at : ℕ) → at < size → IsSymbol (column rows at) j (slice_index row at)
