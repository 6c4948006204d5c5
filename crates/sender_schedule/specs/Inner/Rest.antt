-- What is left of the schedule from a symbol on.
use Rattle.std.specs.Prelude.{◌≡◌, ℕ, ◌+◌, ◌-◌, List, [], ◌∷◌, ◌++◌, Option, Some, None, map, replicate}
use Rattle.std.specs.List.{flat_map}
use Rattle.oti_blocks.specs.Partition.{ObjectInformation, blocks, most_encoding}
use Rattle.sender_plan.specs.Session.{SentObject, SentInstance}
use Rattle.sender_schedule.specs.SymbolIds.{IsSymbolId, from_to, symbol_of_each, having, round}
use Rattle.sender_schedule.specs.Datagram.{datagram}
use Rattle.sender_schedule.specs.Schedule.{all_cycles}
use Rattle.sender_schedule.specs.Inner.Sending.{CanBeSent}
use Rattle.sender_schedule.specs.declared.symbol_id.SymbolId.{SymbolId}

-- the cycles left where `done` of those of the first instance are behind
abbrev pub cycles_from : ℕ → ℕ → List SentInstance → List SentInstance
cycles_from cycles done [] = []
cycles_from cycles done (i ∷ rest) = replicate (cycles - done) i ++ all_cycles cycles rest

-- the symbols of round j from block b on
abbrev pub round_from : ObjectInformation → ℕ → ℕ → List SymbolId
round_from o j b = symbol_of_each j (having o j (from_to b (blocks o)))

-- the symbols from this one on
abbrev pub symbol_ids_from : ObjectInformation → SymbolId → List SymbolId
symbol_ids_from o p = round_from o p.esi p.sbn ++ flat_map (round o) (from_to (p.esi + 1) (most_encoding o))

-- the symbols from this one on, where there is one
abbrev pub rest_of : ObjectInformation → Option SymbolId → List SymbolId
rest_of o None = []
rest_of o (Some p) = symbol_ids_from o p

-- what is left of the object that is being sent
abbrev pub left_of : ℕ → Option SentObject → SymbolId → List (List ℕ)
left_of tsi None p = []
left_of tsi (Some o) p = map (datagram tsi o) (symbol_ids_from o.oti p)

-- the symbol is one of the object; where there is no object, nothing is left
abbrev pub IsDue : List ℕ → Option SentObject → SymbolId → Type 0
IsDue items None p = items ≡ []
IsDue items (Some o) p = CanBeSent o × IsSymbolId o.oti p
