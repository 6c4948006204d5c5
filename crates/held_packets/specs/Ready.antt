-- Which objects are ready.
use Rattle.std.specs.Prelude.{ℕ, nat_le, Bool}
use Rattle.oti_blocks.specs.Partition.{ObjectInformation, blocks, size_at}
use Rattle.wire_bytes.specs.Below.{all_below, count_below}
use Rattle.held_packets.specs.Held.{Held, symbols_held, is_held, place}

-- the block has at least as many distinct symbols as it has source symbols
abbrev pub is_block_ready : Held → ℕ → ObjectInformation → ℕ → Bool
is_block_ready held t o b = nat_le (size_at o b) (symbols_held held t o b)

-- each source block of the object has
abbrev pub is_ready : Held → ℕ → ObjectInformation → Bool
is_ready held t o = all_below (blocks o) (is_block_ready held t o)

-- how many source symbols of the block are held
abbrev pub sources_held : Held → ℕ → ObjectInformation → ℕ → ℕ
sources_held held t o b = count_below (size_at o b) (λ j. is_held held (place t b j))
