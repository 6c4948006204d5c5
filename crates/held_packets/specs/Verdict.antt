-- What becomes of one more packet: the first answer that applies.
use Rattle.std.specs.Prelude.{ℕ, ◌+◌, ◌-◌, ◌*◌, nat_lt, if◌then◌else◌, Bool, true, false, List, [], ◌∷◌, Option, Some, None}
use Rattle.std.specs.List.{fold}
use Rattle.std.specs.Str.{bytes_eq}
use Rattle.std.specs.FinMap.{get}
use Rattle.oti_blocks.specs.Partition.{ObjectInformation, size_at}
use Rattle.alc_packet.specs.Packet.{SymbolPacket, full}
use Rattle.held_packets.specs.declared.kept.Kept.{Kept}
use Rattle.held_packets.specs.declared.kept.Kept.TheVariants.{New, Repeat, Spare, OtiDiffers, SymbolDiffers, OverBudget}
use Rattle.held_packets.specs.Held.{Held, nothing_held, place_of, row_at, same_information, first_difference, joined}
use Rattle.held_packets.specs.Count.{byte_count, charge}
use Rattle.held_packets.specs.Ready.{is_block_ready, is_ready, sources_held}

-- a new packet, of what is held with it: whether its block and its object are ready now
abbrev pub new_in : Held → SymbolPacket → Kept
new_in held p = New (is_block_ready held p.toi p.oti p.sbn) (is_ready held p.toi p.oti)

-- of a packet whose place isn't held
abbrev pub verdict_on_fresh : ℕ → Held → SymbolPacket → Kept
verdict_on_fresh budget held p =
    if is_block_ready held p.toi p.oti p.sbn then Spare else
    if nat_lt budget (byte_count held + charge held p) then OverBudget (byte_count held) (charge held p) else new_in (joined held p) p

-- of a packet whose object isn't held under other transmission information
abbrev pub verdict_on_row : ℕ → Held → SymbolPacket → Option (List ℕ) → Kept
verdict_on_row budget held p (Some row) = if bytes_eq row (full p) then Repeat else SymbolDiffers (first_difference row (full p))
verdict_on_row budget held p None = verdict_on_fresh budget held p

abbrev pub verdict_on_object : ℕ → Held → SymbolPacket → Option ObjectInformation → Kept
verdict_on_object budget held p (Some o) =
    if same_information o p.oti then verdict_on_row budget held p (row_at held (place_of p)) else OtiDiffers o
verdict_on_object budget held p None = verdict_on_row budget held p (row_at held (place_of p))

-- what becomes of the packet under this budget
abbrev pub verdict : ℕ → Held → SymbolPacket → Kept
verdict budget held p = verdict_on_object budget held p (get held.objects p.toi)

-- the packet joins what is held
abbrev pub is_new : Kept → Bool
is_new (New block object) = true
is_new Repeat = false
is_new Spare = false
is_new (OtiDiffers o) = false
is_new (SymbolDiffers at) = false
is_new (OverBudget count charge) = false

-- the packet is one of the kept ones
abbrev pub is_kept : Kept → Bool
is_kept (New block object) = true
is_kept Repeat = true
is_kept Spare = true
is_kept (OtiDiffers o) = false
is_kept (SymbolDiffers at) = false
is_kept (OverBudget count charge) = false

-- the packet would bring the byte count above the budget
abbrev pub is_over_budget : Kept → Bool
is_over_budget (New block object) = false
is_over_budget Repeat = false
is_over_budget Spare = false
is_over_budget (OtiDiffers o) = false
is_over_budget (SymbolDiffers at) = false
is_over_budget (OverBudget count charge) = true

-- its block, its object is ready with it and wasn't before
abbrev pub completes_block : Kept → Bool
completes_block (New block object) = block
completes_block Repeat = false
completes_block Spare = false
completes_block (OtiDiffers o) = false
completes_block (SymbolDiffers at) = false
completes_block (OverBudget count charge) = false

abbrev pub completes_object : Kept → Bool
completes_object (New block object) = object
completes_object Repeat = false
completes_object Spare = false
completes_object (OtiDiffers o) = false
completes_object (SymbolDiffers at) = false
completes_object (OverBudget count charge) = false

-- the packet differs from nothing that is held
abbrev pub IsNoDifference : Kept → Type 0
IsNoDifference (New block object) = Unit {0}
IsNoDifference Repeat = Unit {0}
IsNoDifference Spare = Unit {0}
IsNoDifference (OtiDiffers o) = ⊥
IsNoDifference (SymbolDiffers at) = ⊥
IsNoDifference (OverBudget count charge) = Unit {0}

-- a new packet joins, and nothing else changes what is held
abbrev pub step : ℕ → Held → SymbolPacket → Held
step budget held p = if is_new (verdict budget held p) then joined held p else held

-- what is held after a list of packets, of which the first finds nothing held
abbrev pub held_after : ℕ → List SymbolPacket → Held
held_after budget ps = fold (step budget) nothing_held ps

-- the row steps that a packet costs: where its block is ready with it, one for each source row and each source symbol that isn't held
abbrev pub steps_for : Held → SymbolPacket → ℕ
steps_for held p = (size_at p.oti p.sbn - sources_held held p.toi p.oti p.sbn) * size_at p.oti p.sbn

abbrev pub row_steps : ℕ → Held → SymbolPacket → ℕ
row_steps budget held p = if completes_block (verdict budget held p) then steps_for (joined held p) p else 0

-- the row steps that packets cost, one after another, the first of which finds this held
abbrev pub steps_from : ℕ → Held → List SymbolPacket → ℕ
steps_from budget held [] = 0
steps_from budget held (p ∷ ps) = row_steps budget held p + steps_from budget (step budget held p) ps

-- and that a list of packets costs
abbrev pub steps_of : ℕ → List SymbolPacket → ℕ
steps_of budget ps = steps_from budget nothing_held ps
