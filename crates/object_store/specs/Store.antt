-- What contracts see of a store.
use Rattle.std.specs.Prelude.{◌≡◌, ℕ, ◌&&◌, ◌==◌, Bool, true, not, if◌then◌else◌, List, [], ◌∷◌, ◌++◌, Option, Some, None, is_some}
use Rattle.std.specs.List.{list_any}
use Rattle.oti_blocks.specs.Partition.{ObjectInformation}
use Rattle.alc_packet.specs.Packet.{SymbolPacket}
use Rattle.held_packets.specs.declared.kept.Kept.{Kept}
use Rattle.held_packets.specs.Held.{Held, symbols_held}
use Rattle.held_packets.specs.Verdict.{completes_object}
use Rattle.held_packets.specs.Whole.{whole}

-- its budget, what it holds, and the identifiers of the ready objects in the order in which they became ready
pub record Store : Type 0 where
  pub budget : ℕ
  pub held : Held
  pub ready : List ℕ

abbrev pub is_in : ℕ → List ℕ → Bool
is_in t ts = list_any (λ u. u == t) ts

-- no identifier stands twice
abbrev pub are_different : List ℕ → Bool
are_different [] = true
are_different (t ∷ ts) = not (is_in t ts) && are_different ts

-- the list has exactly the ready objects, each once
pub record IsListed (held : Held) (ready : List ℕ) : Type 0 where
  pub listed : (t : ℕ) → is_some (whole held t) ≡ is_in t ready
  pub different : are_different ready ≡ true

-- with the packet's object at the end, where it has become ready
abbrev pub ready_with : List ℕ → SymbolPacket → Kept → List ℕ
ready_with ready p kept = if completes_object kept then ready ++ p.toi ∷ [] else ready

-- the distinct symbols of a block that are held; none of an object that isn't
abbrev pub held_in_block : Held → ℕ → ℕ → Option ObjectInformation → ℕ
held_in_block held t b None = 0
held_in_block held t b (Some o) = symbols_held held t o b
