-- A block from the symbols at some places, and how many of its source symbols are not among them.
use Rattle.std.specs.Prelude.{ℕ, zero, suc, ◌≡◌, ◌+◌, ◌*◌, ◌<◌, ◌==◌, if◌then◌else◌, List, length, take, drop, slice_index}
use Rattle.std.specs.List.{list_any}
use Rattle.rs_code.specs.SourceRows.{IsSymbolRow, rows_of}
use Rattle.rs_code.specs.Symbol.{IsSymbol}

-- the bytes are the column's symbols at the places
abbrev pub HasSymbols : List ℕ → List ℕ → List ℕ → Type 0
HasSymbols column places bytes = (i : ℕ) → i < length places → IsSymbol column (slice_index places i) (slice_index bytes i)

-- row i of rows of `size` bytes, one after another
abbrev pub row_at : ℕ → List ℕ → ℕ → List ℕ
row_at size rows i = take size (drop (i * size) rows)

-- the block has as many source rows of `size` bytes as there are places, and its symbols at the places are the rows
pub record IsSolution (size : ℕ) (places rows block : List ℕ) : Type 0 where
  pub whole : length block ≡ length places * size
  pub symbols : (i : ℕ) → i < length places
      → IsSymbolRow (rows_of (record { k = length places; size = size; bytes = block })) size (slice_index places i) (row_at size rows i)

-- how many of the numbers below m are not among the places
abbrev pub missing_below : List ℕ → ℕ → ℕ
missing_below places zero = 0
missing_below places (suc m) = missing_below places m + (if list_any (λ p. p == m) places then 0 else 1)

-- how many source symbols of the block are not among the places
abbrev pub missing : List ℕ → ℕ
missing places = missing_below places (length places)
