-- The verdict from what a packet's object says of it.
use Rattle.std.specs.Prelude.{◌≡◌, ℕ, ◌+◌, nat_lt, ◌==◌, if◌then◌else◌, true, false}
use Rattle.oti_blocks.specs.Partition.{symbol_of}
use Rattle.alc_packet.specs.Packet.{SymbolPacket}
use Rattle.held_packets.specs.declared.kept.Kept.{Kept}
use Rattle.held_packets.specs.declared.kept.Kept.TheVariants.{Repeat, Spare, OtiDiffers, SymbolDiffers, OverBudget}
use Rattle.object_store.specs.declared.finding.Finding.{Finding}
use Rattle.object_store.specs.declared.finding.Finding.TheVariants.{Same, Differs, Full, Wanting}
use Rattle.object_store.specs.declared.judgement.Judgement.{Judgement}
use Rattle.object_store.specs.declared.judgement.Judgement.TheVariants.{Joins, Stays}
use Rattle.held_packets.specs.Held.{same_information}
use Rattle.held_packets.specs.Verdict.{is_new}
use Rattle.object_store.specs.Inner.ObjectHeld.{ObjectHeld, finding_at}

abbrev pub by_budget : ℕ → ℕ → ℕ → Judgement
by_budget budget count charge = if nat_lt budget (count + charge) then Stays (OverBudget count charge) else Joins charge

-- `opening` is what the object's own entry adds
abbrev pub by_finding : ℕ → ℕ → ℕ → SymbolPacket → Finding → Judgement
by_finding budget count opening p Same = Stays Repeat
by_finding budget count opening p (Differs at) = Stays (SymbolDiffers at)
by_finding budget count opening p Full = Stays Spare
by_finding budget count opening p (Wanting held) = by_budget budget count ((opening + (if held == 0 then 64 else 0)) + symbol_of p.oti)

-- of a packet whose object is held
abbrev pub judged_in : ℕ → ℕ → ObjectHeld → SymbolPacket → Judgement
judged_in budget count o p = if same_information o.oti p.oti then by_finding budget count 0 p (finding_at o p) else Stays (OtiDiffers o.oti)

-- the judgement says what this verdict says, with this charge where it is New
abbrev pub IsJudged : Kept → ℕ → Judgement → Type 0
IsJudged verdict charge (Stays k) = (k ≡ verdict) × (is_new k ≡ false)
IsJudged verdict charge (Joins added) = (is_new verdict ≡ true) × (added ≡ charge)
