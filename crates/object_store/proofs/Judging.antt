-- The verdict, from what the packet's object says of it.
use Rattle.std.proofs.Common.{◌≡◌, ℕ, ◌+◌, ◌≤◌, Bool, true, false, List, refl, sym, ap, subst, ◌∙◌, arith, Option, Some, None, option_map}
use Rattle.std.specs.Prelude.{is_some, ◌==◌, nat_le, nat_lt, if◌then◌else◌, unwrap_or}
use Rattle.std.specs.Str.{bytes_eq}
use Rattle.std.specs.Ordering.{nat_cmp}
use Rattle.std.specs.FinMap.{FinMap, get, get-empty}
use Rattle.std.proofs.lemmas.Bool.Decides.{nat_tests}
use Rattle.oti_blocks.specs.Partition.{ObjectInformation, size_at, symbol_of}
use Rattle.oti_blocks.proofs.Public.{size_bounds}
use Rattle.alc_packet.specs.Packet.{SymbolPacket, IsPacket, full}
use Rattle.object_store.specs.declared.judgement.Judgement.TheVariants.{Joins, Stays}
use Rattle.held_packets.specs.declared.kept.Kept.{Kept}
use Rattle.held_packets.specs.declared.kept.Kept.TheVariants.{Repeat, Spare, OtiDiffers, SymbolDiffers, OverBudget}
use Rattle.object_store.specs.declared.finding.Finding.{Finding}
use Rattle.object_store.specs.declared.finding.Finding.TheVariants.{Same, Differs, Full, Wanting}
use Rattle.held_packets.specs.Held.{Held, place_of, row_at, symbols_held, same_information, first_difference, joined}
use Rattle.held_packets.specs.Count.{byte_count, charge}
use Rattle.held_packets.specs.Verdict.{verdict, verdict_on_object, verdict_on_row, is_new, new_in}
use Rattle.object_store.specs.Inner.BlockHeld.{BlockHeld, finding_on}
use Rattle.object_store.specs.Inner.ObjectHeld.{ObjectHeld, new_object, unopened, block_at, object_row, symbols_in, finding_at}
use Rattle.object_store.specs.Inner.Objects.{held_of}
use Rattle.object_store.specs.Inner.Judged.{by_budget, by_finding, judged_in, IsJudged}
use Rattle.held_packets.proofs.Public.{same_is_equal}
use Rattle.object_store.proofs.WithPacket.{none_in}
use Rattle.object_store.proofs.HeldView.{get_information, held_here, symbols_are}

-- within the budget it is New, and else OverBudget
judged_by_budget : (budget count charge : ℕ) (new : Kept) → is_new new ≡ true
    → IsJudged (if nat_lt budget (count + charge) then OverBudget count charge else new) charge (by_budget budget count charge)
judged_by_budget budget count charge new is = elim (nat_lt budget (count + charge))
    as (λ b. IsJudged (if b then OverBudget count charge else new) charge (if b then Stays (OverBudget count charge) else Joins charge)) [
      | true ↦ (refl, refl)
      | false ↦ (is, refl)
    ]

-- on a row or a vacant place
judged_on_row : (budget : ℕ) (held : Held) (p : SymbolPacket) (opening : ℕ) (r : Option (List ℕ))
    → charge held p ≡ (opening + (if symbols_held held p.toi p.oti p.sbn == 0 then 64 else 0)) + symbol_of p.oti
    → IsJudged (verdict_on_row budget held p r) (charge held p)
    (by_finding budget (byte_count held) opening p (finding_on (size_at p.oti p.sbn) (symbols_held held p.toi p.oti p.sbn) (full p) r))
judged_on_row budget held p opening (Some row) adds = either (bytes_eq row (full p)) (first_difference row (full p))
  where
    either : (x : Bool) (at : ℕ) → IsJudged (if x then Repeat else SymbolDiffers at)
        (charge held p) (by_finding budget (byte_count held) opening p (if x then Same else Differs at))
    either true at = (refl, refl)
    either false at = (refl, refl)
judged_on_row budget held p opening None adds =
    elim (nat_le (size_at p.oti p.sbn) (symbols_held held p.toi p.oti p.sbn)) as (λ x. IsJudged
    (if x then Spare else if nat_lt budget (byte_count held + charge held p) then OverBudget (byte_count held) (charge held p) else new_in (joined held p) p)
    (charge held p) (by_finding budget (byte_count held) opening p (if x then Full else Wanting (symbols_held held p.toi p.oti p.sbn)))) [
      | true ↦ (refl, refl)
      | false ↦ subst (λ (c : ℕ). IsJudged (if nat_lt budget (byte_count held + charge held p) then OverBudget (byte_count held)
          (charge held p) else new_in (joined held p) p) (charge held p) (by_budget budget (byte_count held) c)) adds
          (judged_by_budget budget (byte_count held) (charge held p) (new_in (joined held p) p) refl)
    ]

-- the packet's object isn't held
pub judged_unheld : (budget : ℕ) (m : FinMap nat_cmp ObjectHeld) (p : SymbolPacket) → IsPacket p → get m p.toi ≡ None
    → IsJudged (verdict budget (held_of m) p) (charge (held_of m) p) (by_finding budget (byte_count (held_of m)) 256 p (Wanting 0))
unfolding charge
judged_unheld budget m p is closed =
    let held = held_of m in
    let information : get held.objects p.toi ≡ None = get_information m p.toi ∙ ap (option_map (λ (o : ObjectHeld). o.oti)) closed in
    let here : unwrap_or (get m p.toi) (new_object p.oti) ≡ new_object p.oti = ap (λ (r : Option ObjectHeld). unwrap_or r (new_object p.oti)) closed in
    let shut : block_at (new_object p.oti) p.sbn ≡ unopened p.oti p.sbn = ap (λ (r : Option BlockHeld). unwrap_or r (unopened p.oti p.sbn)) (get-empty nat_cmp p.sbn) in
    let none : symbols_held held p.toi p.oti p.sbn ≡ 0 = symbols_are m p.toi p.oti (new_object p.oti) here p.sbn ∙ none_in (new_object p.oti) p.sbn shut in
    let vacant : row_at held (place_of p) ≡ None = held_here m p.toi p.oti (new_object p.oti) here p.sbn p.esi
    ∙ ap (λ (h : BlockHeld). get h.rows p.esi) shut ∙ get-empty nat_cmp p.esi in
    let adds : charge held p ≡ (256 + (if symbols_held held p.toi p.oti p.sbn == 0 then 64 else 0)) + symbol_of p.oti =
    ap (λ (r : Option ObjectInformation). ((if is_some r then 0 else 256) + (if symbols_held held p.toi p.oti p.sbn == 0 then 64 else 0)) + symbol_of p.oti) information in
    let some = (size_bounds p.oti is.sound p.sbn is.block).0 in
    subst (λ (k : Kept). IsJudged k (charge held p) (by_finding budget (byte_count held) 256 p (Wanting 0))) (sym (ap (verdict_on_object budget held p) information))
    (subst (λ (r : Option (List ℕ)). IsJudged (verdict_on_row budget held p r) (charge held p) (by_finding budget (byte_count held) 256 p (Wanting 0))) (sym vacant)
    (subst (λ (f : Finding). IsJudged (verdict_on_row budget held p None) (charge held p) (by_finding budget (byte_count held) 256 p f))
    (ap (λ (n : ℕ). if nat_le (size_at p.oti p.sbn) n then Full else Wanting n) none ∙ ap (λ x. if x then Full else Wanting 0) (not_yet (size_at p.oti p.sbn) some))
    (judged_on_row budget held p 256 None adds)))
  where
    not_yet : (k : ℕ) → 1 ≤ k → nat_le k 0 ≡ false
    not_yet k some = grind (arith, nat_tests)

pub judged_held : (budget : ℕ) (m : FinMap nat_cmp ObjectHeld) (p : SymbolPacket) (o : ObjectHeld) → get m p.toi ≡ Some o
    → IsJudged (verdict budget (held_of m) p) (charge (held_of m) p) (judged_in budget (byte_count (held_of m)) o p)
unfolding charge
judged_held budget m p o open_o =
    let held = held_of m in
    let information : get held.objects p.toi ≡ Some o.oti = get_information m p.toi ∙ ap (option_map (λ (o : ObjectHeld). o.oti)) open_o in
    let here : unwrap_or (get m p.toi) (new_object p.oti) ≡ o = ap (λ (r : Option ObjectHeld). unwrap_or r (new_object p.oti)) open_o in
    let adds : charge held p ≡ (0 + (if symbols_held held p.toi p.oti p.sbn == 0 then 64 else 0)) + symbol_of p.oti =
    ap (λ (r : Option ObjectInformation). ((if is_some r then 0 else 256) + (if symbols_held held p.toi p.oti p.sbn == 0 then 64 else 0)) + symbol_of p.oti) information in
    subst (λ (k : Kept). IsJudged k (charge held p) (judged_in budget (byte_count held) o p)) (sym (ap (verdict_on_object budget held p) information))
    (elim (same_information o.oti p.oti) as (λ x. same_information o.oti p.oti ≡ x
    → IsJudged (if x then verdict_on_row budget held p (row_at held (place_of p)) else OtiDiffers o.oti) (charge held p)
    (if x then by_finding budget (byte_count held) 0 p (finding_at o p) else Stays (OtiDiffers o.oti))) [
      | true ↦ λ same.
          let equal = same_is_equal o.oti p.oti same in
          let row = held_here m p.toi p.oti o here p.sbn p.esi in
          let count : symbols_held held p.toi p.oti p.sbn ≡ symbols_in o p.sbn =
          ap (λ (u : ObjectInformation). symbols_held held p.toi u p.sbn) (sym equal) ∙ symbols_are m p.toi p.oti o here p.sbn in
          subst (λ (f : Finding). IsJudged (verdict_on_row budget held p (row_at held (place_of p))) (charge held p) (by_finding budget (byte_count held) 0 p f))
          (ap (λ (n : ℕ). finding_on (size_at p.oti p.sbn) n (full p) (row_at held (place_of p))) count
          ∙ ap (finding_on (size_at p.oti p.sbn) (symbols_in o p.sbn) (full p)) row
          ∙ ap (λ (u : ObjectInformation). finding_on (size_at u p.sbn) (symbols_in o p.sbn) (full p) (object_row o p.sbn p.esi)) (sym equal))
          (judged_on_row budget held p 0 (row_at held (place_of p)) adds)
      | false ↦ λ other. (refl, refl)
    ] refl)
