-- What is held of one object.
use Rattle.std.specs.Prelude.{◌≡◌, ℕ, ◌<◌, ◌*◌, ◌-◌, if◌then◌else◌, nat_le, Bool, true, List, Option, Some, None, length, take, drop, unwrap_or}
use Rattle.std.specs.Ordering.{nat_cmp}
use Rattle.std.specs.FinMap.{FinMap, empty, get, insert}
use Rattle.wire_bytes.specs.Below.{count_below, all_below}
use Rattle.oti_blocks.specs.Partition.{ObjectInformation, blocks, size_at, start_at, encoding_at, length_of, symbol_of}
use Rattle.alc_packet.specs.Packet.{SymbolPacket, full}
use Rattle.rs_code.specs.SourceRows.{cut, IsSymbolRow}
use Rattle.object_store.specs.declared.finding.Finding.{Finding}
use Rattle.object_store.specs.Inner.BlockHeld.{BlockHeld, no_rows, has_row, with_row, finding_on}

-- its transmission information, and its open blocks by their numbers
pub record ObjectHeld : Type 0 where
  pub oti : ObjectInformation
  pub parts : FinMap nat_cmp BlockHeld

abbrev pub new_object : ObjectInformation → ObjectHeld
new_object o = record { oti = o; parts = empty }

-- a block that isn't open has no rows
abbrev pub unopened : ObjectInformation → ℕ → BlockHeld
unopened o b = no_rows (size_at o b) (encoding_at o b) (symbol_of o)

abbrev pub block_at : ObjectHeld → ℕ → BlockHeld
block_at o b = unwrap_or (get o.parts b) (unopened o.oti b)

abbrev pub object_row : ObjectHeld → ℕ → ℕ → Option (List ℕ)
object_row o b j = get (block_at o b).rows j

-- how many symbols of the block are held, and whether these are as many as it has source symbols
abbrev pub symbols_in : ObjectHeld → ℕ → ℕ
symbols_in o b = count_below (encoding_at o.oti b) (has_row (block_at o b))

abbrev pub is_block_done : ObjectHeld → ℕ → Bool
is_block_done o b = nat_le (size_at o.oti b) (symbols_in o b)

abbrev pub is_done : ObjectHeld → Bool
is_done o = all_below (blocks o.oti) (is_block_done o)

abbrev pub with_packet : ObjectHeld → SymbolPacket → ObjectHeld
with_packet o p = record { oti = o.oti; parts = insert o.parts p.sbn (with_row (block_at o p.sbn) p.esi (full p)) }

-- the row steps that the block has cost
abbrev pub sources_at : ObjectHeld → ℕ → ℕ
sources_at o b = count_below (size_at o.oti b) (has_row (block_at o b))

abbrev pub steps_at : ObjectHeld → ℕ → ℕ
steps_at o b = if is_block_done o b then (size_at o.oti b - sources_at o b) * size_at o.oti b else 0

-- what a packet of the object meets
abbrev pub finding_at : ObjectHeld → SymbolPacket → Finding
finding_at o p = finding_on (size_at o.oti p.sbn) (symbols_in o p.sbn) (full p) (object_row o p.sbn p.esi)

-- a packet that the object has room for
pub record Joins (o : ObjectHeld) (p : SymbolPacket) : Type 0 where
  pub same : o.oti ≡ p.oti
  pub vacant : object_row o p.sbn p.esi ≡ None
  pub wanting : symbols_in o p.sbn < size_at o.oti p.sbn

-- the block has the object's numbers
pub record IsShaped (o : ObjectInformation) (b : ℕ) (h : BlockHeld) : Type 0 where
  pub k : h.k ≡ size_at o b
  pub n : h.n ≡ encoding_at o b
  pub size : h.size ≡ symbol_of o

-- the bytes are the source rows of the first n blocks: the rows held there are their symbols
pub record AreRowsBelow (o : ObjectHeld) (n : ℕ) (bytes : List ℕ) : Type 0 where
  pub long : length bytes ≡ start_at o.oti n * symbol_of o.oti
  pub symbols : (b j : ℕ) (row : List ℕ) → b < n → object_row o b j ≡ Some row
      → IsSymbolRow (cut (size_at o.oti b) (symbol_of o.oti) (drop (start_at o.oti b * symbol_of o.oti) bytes)) (symbol_of o.oti) j row

-- the bytes are those of the object, which is done
pub record IsWholeOf (o : ObjectHeld) (bytes : List ℕ) : Type 0 where
  pub done : is_done o ≡ true
  pub rows : List ℕ
  pub are : AreRowsBelow o (blocks o.oti) rows
  pub front : bytes ≡ take (length_of o.oti) rows
