-- What the receiver of a drill holds: that of the deliveries, or of a front of them where it was stopped.
use Rattle.std.proofs.Common.{◌≡◌, ℕ, ◌+◌, ◌-◌, ◌^◌, min, List, [], ◌∷◌, ◌++◌, ◌∙◌, sym, ap, arith, length, take, Option}
use Rattle.std.specs.Prelude.{Result, Ok, Err, OnOk}
use Rattle.std.proofs.lemmas.List.{take_all}
use Rattle.carousel_cid.specs.Instances.{Shown}
use Rattle.held_packets.specs.Held.{Held}
use Rattle.held_packets.specs.Verdict.{held_after, steps_of}
use Rattle.receiver_core.specs.BestOf.{installed_after}
use Rattle.receiver_core.specs.Classes.{packets_of, held_with, steps_with}
use Rattle.receiver_core.specs.Receiver.{Receiver}
use Rattle.run_drill.specs.Drill.{HoldsPart, sent, delivered, deliveries, after_bodies, summed, summary, installed_of, summary_status, summary_lines, drilled}
use Rattle.run_drill.specs.declared.summary.Summary.{Summary}
use Rattle.run_receive.specs.HasTaken.{HasTaken}
use Rattle.run_receive.proofs.Public.{held_one_more, steps_one_more}

pub on_ok : {A E : Type 0} (r : Result A E) (P : Type 0) → P → OnOk r P
on_ok (Ok a) P holds = holds
on_ok (Err e) P holds = tt

-- what is held and installed in the words of a drill
pub held_is : (r : Receiver) (ds : List (List ℕ)) → r.tsi ≡ 1 → r.budget ≡ 67108864 → HasTaken r ds → r.held ≡ held_after 67108864 (packets_of 1 ds)
held_is r ds tsi budget has = has.held ∙ ap (λ t. held_after r.budget (packets_of t ds)) tsi ∙ ap (λ b. held_after b (packets_of 1 ds)) budget

pub installed_is : (r : Receiver) (ds : List (List ℕ)) → r.tsi ≡ 1 → r.budget ≡ 67108864 → HasTaken r ds
    → r.installed ≡ installed_after 67108864 (packets_of 1 ds)
installed_is r ds tsi budget has =
    has.installed ∙ ap (λ t. installed_after r.budget (packets_of t ds)) tsi ∙ ap (λ b. installed_after b (packets_of 1 ds)) budget

pub held_more_is : (r : Receiver) (held : Held) (d : List ℕ) (ds : List (List ℕ)) → r.tsi ≡ 1 → r.budget ≡ 67108864 → HasTaken r ds
    → held ≡ held_with r.tsi r.budget r.held d → held ≡ held_after 67108864 (packets_of 1 (ds ++ d ∷ []))
held_more_is r held d ds tsi budget has is =
    is ∙ held_one_more r d ds has ∙ ap (λ t. held_after r.budget (packets_of t (ds ++ d ∷ []))) tsi
    ∙ ap (λ b. held_after b (packets_of 1 (ds ++ d ∷ []))) budget

-- the row steps with one datagram more, in the words of a drill
pub steps_more_are : (r : Receiver) (old before after : ℕ) (d : List ℕ) (ds : List (List ℕ)) → r.tsi ≡ 1 → r.budget ≡ 67108864 → HasTaken r ds
    → before ≡ min (old + steps_of 67108864 (packets_of 1 ds)) (2 ^ 64 - 1) → after ≡ min (before + steps_with r.tsi r.budget r.held d) (2 ^ 64 - 1)
    → after ≡ min (old + steps_of 67108864 (packets_of 1 (ds ++ d ∷ []))) (2 ^ 64 - 1)
steps_more_are r old before after d ds tsi budget has was is =
    let drill : (es : List (List ℕ)) → steps_of r.budget (packets_of r.tsi es) ≡ steps_of 67108864 (packets_of 1 es) =
    λ es. ap (λ t. steps_of r.budget (packets_of t es)) tsi ∙ ap (λ b. steps_of b (packets_of 1 es)) budget in
    let more = steps_one_more r d ds has in
    let these = drill ds in
    let those = drill (ds ++ d ∷ []) in
    omega (arith, more, these, those, was, is)

-- the front of so many
pub front_held : (held : Held) (ds all : List (List ℕ)) (n : ℕ) → ds ≡ take n all → held ≡ held_after 67108864 (packets_of 1 ds) → HoldsPart all held
front_held held ds all n front is = record { taken = n; front = is ∙ ap (λ xs. held_after 67108864 (packets_of 1 xs)) front }

pub all_held : (held : Held) (all : List (List ℕ)) → held ≡ held_after 67108864 (packets_of 1 all) → HoldsPart all held
all_held held all is = front_held held all all (length all) (sym (take_all (length all) all (omega arith))) is

-- the deliveries, and what came of them
pub are_deliveries : (start x : ℕ) (s ds : List (List ℕ)) → s ≡ sent start → x ≡ after_bodies 12 start → ds ≡ delivered x s → ds ≡ deliveries start
unfolding deliveries
are_deliveries start x s ds is state passed = passed ∙ ap (delivered x) is ∙ ap (λ k. delivered k (sent start)) state

pub is_summary : (start n m : ℕ) (installed : Option Shown) → n ≡ length (sent start) → m ≡ length (deliveries start)
    → installed ≡ installed_after 67108864 (packets_of 1 (deliveries start)) → summed n m installed ≡ summary start
unfolding summary installed_of
is_summary start n m installed many delivered shown =
    ap (λ k. summed k m installed) many ∙ ap (λ k. summed (length (sent start)) k installed) delivered
    ∙ ap (summed (length (sent start)) (length (deliveries start))) shown

pub drilled_status : (start : ℕ) (s : Summary) → s ≡ summary start → summary_status s.installed ≡ (drilled start).status
unfolding drilled
drilled_status start s is = ap (λ (t : Summary). summary_status t.installed) is

pub drilled_text : (start : ℕ) (s : Summary) → s ≡ summary start → summary_lines s ≡ (drilled start).text
unfolding drilled
drilled_text start s is = ap summary_lines is
