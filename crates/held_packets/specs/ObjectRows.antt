-- The source rows of an object that is held, as a relation.
use Rattle.std.specs.Prelude.{◌≡◌, ◌<◌, ◌*◌, ℕ, List, Some, length, drop}
use Rattle.oti_blocks.specs.Partition.{ObjectInformation, sources, blocks, size_at, start_at, symbol_of}
use Rattle.rs_code.specs.SourceRows.{cut, IsSymbolRow}
use Rattle.held_packets.specs.Held.{Held, place, row_at}

-- Rows of all blocks, one after the other, whose symbols at the held places are the held rows.
-- A law says that `whole` is what such rows begin with, and that there are such rows.
pub record AreSourceRows (held : Held) (t : ℕ) (o : ObjectInformation) (rows : List ℕ) : Type 0 where
  pub long : length rows ≡ sources o * symbol_of o
  pub symbols : (b j : ℕ) (row : List ℕ) → b < blocks o → row_at held (place t b j) ≡ Some row
      → IsSymbolRow (cut (size_at o b) (symbol_of o) (drop (start_at o b * symbol_of o) rows)) (symbol_of o) j row
