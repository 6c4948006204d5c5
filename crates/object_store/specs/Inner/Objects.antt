-- A map of objects as the held pair.
use Rattle.std.specs.Prelude.{◌≡◌, ℕ, ◌≤◌, ◌^◌, List, [], ◌∷◌, ◌++◌, map, unwrap_or}
use Rattle.std.specs.Ordering.{nat_cmp}
use Rattle.std.specs.FinMap.{FinMap, get, entries, from_entries}
use Rattle.std.specs.BTreeMap.{BTreeMap}
use Rattle.std.specs.BTreeMap as tree
use Rattle.alc_packet.specs.Packet.{SymbolPacket}
use Rattle.held_packets.specs.Held.{Held, Place, place}
use Rattle.held_packets.specs.Count.{byte_count}
use Rattle.held_packets.specs.HeldPair.{IsHeldPair}
use Rattle.object_store.specs.Store.{IsListed}
use Rattle.object_store.specs.Inner.BlockHeld.{BlockHeld}
use Rattle.object_store.specs.Inner.ObjectHeld.{ObjectHeld, new_object}

-- the rows of each entry, one entry after the other
abbrev pub flat : {V : Type 0} → (ℕ → V → List (Place × List ℕ)) → List (ℕ × V) → List (Place × List ℕ)
flat rows [] = []
flat rows (e ∷ es) = rows e.0 e.1 ++ flat rows es

abbrev pub block_rows : ℕ → ℕ → BlockHeld → List (Place × List ℕ)
block_rows t b h = map (λ e. (place t b e.0, e.1)) (entries h.rows)

abbrev pub object_rows : ℕ → ObjectHeld → List (Place × List ℕ)
object_rows t o = flat (block_rows t) (entries o.parts)

-- the held pair: each object's transmission information, and each row at its place
unfoldable pub held_of : FinMap nat_cmp ObjectHeld → Held
held_of m = record { objects = from_entries (map (λ e. (e.0, e.1.oti)) (entries m)); rows = from_entries (flat object_rows (entries m)) }

-- the object of a packet
abbrev pub object_at : FinMap nat_cmp ObjectHeld → SymbolPacket → ObjectHeld
object_at m p = unwrap_or (get m p.toi) (new_object p.oti)

-- the same of a tree
abbrev pub object_in : BTreeMap ℕ ObjectHeld → SymbolPacket → ObjectHeld
object_in m p = unwrap_or (tree.get nat_cmp m p.toi) (new_object p.oti)

-- what holds of a store in memory
pub record IsStore (budget count : ℕ) (held : Held) (ready : List ℕ) : Type 0 where
  pub counted : count ≡ byte_count held
  pub within : count ≤ budget
  pub small : budget ≤ 2 ^ 30
  pub listed : IsListed held ready
  pub pair : IsHeldPair held
