-- The ready objects and their bytes.
use Rattle.std.specs.Prelude.{ℕ, if◌then◌else◌, List, [], Option, Some, None, map, take, unwrap_or}
use Rattle.std.specs.FinMap.{get}
use Rattle.oti_blocks.specs.Partition.{ObjectInformation, blocks, size_at, encoding_at, length_of, symbol_of}
use Rattle.wire_bytes.specs.Below.{join_below, which_below}
use Rattle.held_packets.specs.Held.{Held, place, row_at, is_held}
use Rattle.held_packets.specs.Ready.{is_ready}
use Rattle.held_packets.specs.Solved.{source_row}

abbrev pub row_or_none : Held → ℕ → ℕ → ℕ → List ℕ
row_or_none held t b j = unwrap_or (row_at held (place t b j)) []

-- the first places of block b that are held, as many as it has source symbols
unfoldable pub held_places : Held → ℕ → ObjectInformation → ℕ → List ℕ
held_places held t o b = take (size_at o b) (which_below (encoding_at o b) (λ j. is_held held (place t b j)))

abbrev pub rows_at : Held → ℕ → ℕ → List ℕ → List (List ℕ)
rows_at held t b places = map (λ j. row_or_none held t b j) places

-- the source rows of block b, one after the other: those whose symbols at the held places are the held rows
unfoldable pub block_bytes : Held → ℕ → ObjectInformation → ℕ → List ℕ
block_bytes held t o b = join_below (size_at o b) (λ i. source_row (symbol_of o) (held_places held t o b) (rows_at held t b (held_places held t o b)) i)

-- the object's bytes, without the zero fill of the last row, where it is ready
abbrev pub bytes_when_ready : Held → ℕ → Option ObjectInformation → Option (List ℕ)
bytes_when_ready held t None = None
bytes_when_ready held t (Some o) = if is_ready held t o then Some (take (length_of o) (join_below (blocks o) (λ b. block_bytes held t o b))) else None

-- the ready objects and their bytes
unfoldable pub whole : Held → ℕ → Option (List ℕ)
whole held t = bytes_when_ready held t (get held.objects t)
