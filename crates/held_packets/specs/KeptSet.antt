-- The packets of a list that are kept, as a list and as a set.
use Rattle.std.specs.Prelude.{◌≡◌, ℕ, ◌+◌, ◌*◌, ◌==◌, min, if◌then◌else◌, List, [], ◌∷◌, Option, Some, None, ◌⊎◌}
use Rattle.std.specs.List.{fold, sum_by}
use Rattle.std.specs.FinMap.{entries}
use Rattle.wire_bytes.specs.Below.{sum_below}
use Rattle.oti_blocks.specs.Partition.{ObjectInformation, blocks, size_at, symbol_of}
use Rattle.alc_packet.specs.Packet.{SymbolPacket, full}
use Rattle.held_packets.specs.Held.{Held, nothing_held, symbols_held, joined}
use Rattle.held_packets.specs.Verdict.{verdict, step, is_kept, is_over_budget}
use Rattle.held_packets.specs.Ready.{is_ready}
use Rattle.held_packets.specs.Session.{Session, Sent}

-- the packets with the verdict New, Repeat or Spare, of those that follow what is held
abbrev pub kept_from : ℕ → Held → List SymbolPacket → List SymbolPacket
kept_from budget held [] = []
kept_from budget held (p ∷ ps) =
    if is_kept (verdict budget held p) then p ∷ kept_from budget (step budget held p) ps else kept_from budget (step budget held p) ps

-- the kept packets of a list, in order
abbrev pub kept : ℕ → List SymbolPacket → List SymbolPacket
kept budget ps = kept_from budget nothing_held ps

-- how many are over the budget, of those that follow what is held
abbrev pub drops_from : ℕ → Held → List SymbolPacket → ℕ
drops_from budget held [] = 0
drops_from budget held (p ∷ ps) = (if is_over_budget (verdict budget held p) then 1 else 0) + drops_from budget (step budget held p) ps

abbrev pub drops : ℕ → List SymbolPacket → ℕ
drops budget ps = drops_from budget nothing_held ps

-- two packets are one of a set where identifier, transmission information, block, place and filled symbol agree
pub record IsOne (p q : SymbolPacket) : Type 0 where
  pub toi : p.toi ≡ q.toi
  pub information : p.oti ≡ q.oti
  pub block : p.sbn ≡ q.sbn
  pub place : p.esi ≡ q.esi
  pub symbol : full p ≡ full q

-- the packet is in the set of these
abbrev pub IsIn : SymbolPacket → List SymbolPacket → Type 0
IsIn q [] = ⊥
IsIn q (p ∷ ps) = IsOne p q ⊎ IsIn q ps

-- two lists have one set of packets
pub record AreOneSet (ps qs : List SymbolPacket) : Type 0 where
  pub there : (q : SymbolPacket) → IsIn q ps → IsIn q qs
  pub back : (q : SymbolPacket) → IsIn q qs → IsIn q ps

-- A set of packets of one session as maps, whatever the budget: the kept set is `gathered (kept budget ps)`. An object
-- is ready in it where each of its blocks has at least k distinct symbols there.
abbrev pub gathered : List SymbolPacket → Held
gathered ps = fold joined nothing_held ps

-- 64 for a block with a symbol, and the symbol's length for each distinct one, but for no more than k
abbrev pub capped_count : ObjectInformation → ℕ → ℕ → ℕ
capped_count o k distinct = if distinct == 0 then 0 else 64 + symbol_of o * min k distinct

abbrev pub object_total : Held → ℕ → ObjectInformation → ℕ
object_total set t o = 256 + sum_below (blocks o) (λ b. capped_count o (size_at o b) (symbols_held set t o b))

-- the byte count of a set of packets
unfoldable pub set_count : Held → ℕ
set_count set = sum_by (λ e. object_total set e.0 e.1) (entries set.objects)

abbrev pub sent_when_ready : Held → ℕ → Option Sent → Option (List ℕ)
sent_when_ready set t None = None
sent_when_ready set t (Some x) = if is_ready set t x.oti then Some x.bytes else None

-- the session's objects that are ready in the set, with the session's bytes
unfoldable pub ready_objects : Session → Held → ℕ → Option (List ℕ)
ready_objects s set t = sent_when_ready set t (s t)
