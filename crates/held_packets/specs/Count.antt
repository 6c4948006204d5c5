-- The byte count of a held pair, which the budget bounds.
use Rattle.std.specs.Prelude.{ℕ, ◌+◌, ◌*◌, ◌==◌, if◌then◌else◌, is_some}
use Rattle.std.specs.List.{sum_by}
use Rattle.std.specs.FinMap.{get, entries}
use Rattle.wire_bytes.specs.Below.{sum_below}
use Rattle.oti_blocks.specs.Partition.{ObjectInformation, blocks, symbol_of}
use Rattle.alc_packet.specs.Packet.{SymbolPacket}
use Rattle.held_packets.specs.Held.{Held, symbols_held}

-- 64 for a block with a place, and the symbol's length for each place
abbrev pub block_count : ObjectInformation → ℕ → ℕ
block_count o held = if held == 0 then 0 else 64 + symbol_of o * held

-- 256 for an object, and its blocks
abbrev pub object_count : Held → ℕ → ObjectInformation → ℕ
object_count held t o = 256 + sum_below (blocks o) (λ b. block_count o (symbols_held held t o b))

-- the byte count: that of each object
unfoldable pub byte_count : Held → ℕ
byte_count held = sum_by (λ e. object_count held e.0 e.1) (entries held.objects)

-- what a packet would add to the byte count
unfoldable pub charge : Held → SymbolPacket → ℕ
charge held p =
    (if is_some (get held.objects p.toi) then 0 else 256)
    + (if symbols_held held p.toi p.oti p.sbn == 0 then 64 else 0)
    + symbol_of p.oti
