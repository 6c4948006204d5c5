-- How often a symbol stands in a list of symbols.
use Rattle.std.specs.Prelude.{ℕ, ◌+◌, ◌==◌, ◌&&◌, Bool, if◌then◌else◌, List, [], ◌∷◌}
use Rattle.sender_schedule.specs.declared.symbol_id.SymbolId.{SymbolId}

abbrev pub is_same : SymbolId → SymbolId → Bool
is_same p q = p.esi == q.esi && p.sbn == q.sbn

abbrev pub times : SymbolId → List SymbolId → ℕ
times p [] = 0
times p (q ∷ qs) = if is_same p q then times p qs + 1 else times p qs
