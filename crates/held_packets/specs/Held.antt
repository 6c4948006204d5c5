-- What a receiver holds of a session.
use Rattle.std.specs.Prelude.{ℕ, ◌&&◌, Bool, not, ◌==◌, List, Option, is_some, unwrap_or}
use Rattle.std.specs.List.{position_from, zip}
use Rattle.std.specs.declared.cmp.Ordering.{Ordering}
use Rattle.std.specs.Ordering.{nat_cmp, ordering_then}
use Rattle.std.specs.FinMap.{FinMap, empty, get, insert}
use Rattle.oti_blocks.specs.Partition.{ObjectInformation, encoding_at, length_of, symbol_of, max_block_of, max_n_of}
use Rattle.alc_packet.specs.Packet.{SymbolPacket, full}
use Rattle.wire_bytes.specs.Below.{count_below}

-- where a symbol stands: its object, its source block and its encoding symbol identifier (RFC 5510, section 4.1)
pub record Place : Type 0 where
  pub toi : ℕ
  pub sbn : ℕ
  pub esi : ℕ

abbrev pub place : ℕ → ℕ → ℕ → Place
place t b j = record { toi = t; sbn = b; esi = j }

-- by object, then by block, then by symbol
abbrev pub place_cmp : Place → Place → Ordering
place_cmp p q = ordering_then (nat_cmp p.toi q.toi) (ordering_then (nat_cmp p.sbn q.sbn) (nat_cmp p.esi q.esi))

-- the held pair: the transmission information of each object, and the row of bytes at each place
pub record Held : Type 0 where
  pub objects : FinMap nat_cmp ObjectInformation
  pub rows : FinMap place_cmp (List ℕ)

abbrev pub nothing_held : Held
nothing_held = record { objects = empty; rows = empty }

abbrev pub row_at : Held → Place → Option (List ℕ)
row_at held q = get held.rows q

abbrev pub is_held : Held → Place → Bool
is_held held q = is_some (row_at held q)

-- the distinct encoding symbols of block b that are held
abbrev pub symbols_held : Held → ℕ → ObjectInformation → ℕ → ℕ
symbols_held held t o b = count_below (encoding_at o b) (λ j. is_held held (place t b j))

abbrev pub place_of : SymbolPacket → Place
place_of p = place p.toi p.sbn p.esi

-- the same transmission information
abbrev pub same_information : ObjectInformation → ObjectInformation → Bool
same_information o u = (length_of o == length_of u) && (symbol_of o == symbol_of u) && (max_block_of o == max_block_of u) && (max_n_of o == max_n_of u)

-- the first place at which two rows differ
abbrev pub first_difference : List ℕ → List ℕ → ℕ
first_difference xs ys = unwrap_or (position_from (λ p. not (p.0 == p.1)) 0 (zip xs ys)) 0

-- with the packet's row at its place, and its object opened
abbrev pub joined : Held → SymbolPacket → Held
joined held p = record { objects = insert held.objects p.toi p.oti; rows = insert held.rows (place_of p) (full p) }
