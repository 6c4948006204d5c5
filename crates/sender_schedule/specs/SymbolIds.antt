-- The identifiers of an object's encoding symbols, in the order in which they are sent.
use Rattle.std.specs.Prelude.{ℕ, ◌-◌, ◌<◌, nat_lt, List, map, filter}
use Rattle.std.specs.List.{range_with_len, flat_map}
use Rattle.oti_blocks.specs.Partition.{ObjectInformation, blocks, encoding_at, most_encoding}
use Rattle.sender_schedule.specs.declared.symbol_id.SymbolId.{SymbolId}

-- a symbol of the object: the block is one of its blocks, and the block has an encoding symbol of this number
pub record IsSymbolId (o : ObjectInformation) (p : SymbolId) : Type 0 where
  pub sbn : p.sbn < blocks o
  pub esi : p.esi < encoding_at o p.sbn

-- the first symbol of each object
abbrev pub opening : SymbolId
opening = record { esi = 0; sbn = 0 }

-- the numbers from a to b, without b
abbrev pub from_to : ℕ → ℕ → List ℕ
from_to a b = range_with_len a (b - a)

-- symbol j of each of these blocks
abbrev pub symbol_of_each : ℕ → List ℕ → List SymbolId
symbol_of_each j bs = map (λ b. record { esi = j; sbn = b }) bs

-- those of these blocks that have a symbol j
abbrev pub having : ObjectInformation → ℕ → List ℕ → List ℕ
having o j bs = filter (λ b. nat_lt j (encoding_at o b)) bs

-- symbol j of each block that has one, in rising order of the blocks
abbrev pub round : ObjectInformation → ℕ → List SymbolId
round o j = symbol_of_each j (having o j (from_to 0 (blocks o)))

-- for j = 0, 1, 2, ..: symbol j of each block that has one
abbrev pub symbol_ids : ObjectInformation → List SymbolId
symbol_ids o = flat_map (round o) (from_to 0 (most_encoding o))
