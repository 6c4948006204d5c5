-- A receiver installs the last instance of a catalog from packets of its session that make the instance ready.
use Rattle.std.proofs.Common.{◌≡◌, ℕ, ◌<◌, ◌≤◌, Bool, true, false, List, [], ◌∷◌, ◌++◌, Option, Some, None, refl, sym, ap, subst, ◌∙◌, get_or, arith, inl, inr}
use Rattle.std.specs.Prelude.{All, ◌==◌, if◌then◌else◌, option_map}
use Rattle.std.specs.List.{Contains}
use Rattle.std.proofs.lemmas.Bool.{ne_eqb, eqb-false}
use Rattle.std.proofs.lemmas.Bool.Decides.{nat_tests}
use Rattle.std.proofs.lemmas.List.Elements.{All-head, All-tail, All-contains}
use Rattle.alc_packet.specs.Packet.{SymbolPacket}
use Rattle.carousel_cid.specs.Instances.{Shown, toi_of}
use Rattle.carousel_cid.specs.Kinds.{kind_of_object}
use Rattle.carousel_cid.specs.declared.kind.Kind.TheVariants as kinds
use Rattle.held_packets.specs.Held.{Held}
use Rattle.held_packets.specs.Ready.{is_ready}
use Rattle.held_packets.specs.KeptSet.{kept, gathered, set_count, sent_when_ready, ready_objects}
use Rattle.held_packets.specs.Session.{AreOf}
use Rattle.held_packets.proofs.Public.{all_kept}
use Rattle.receiver_core.specs.Best.{Objects, IsBestOf, complete, files_of, is_better}
use Rattle.receiver_core.specs.BestOf.{installed_after}
use Rattle.receiver_core.specs.Classes.{packets_of}
use Rattle.receiver_core.proofs.Public.{complete_descriptor, complete_named, descriptor_of}
use Rattle.receiver_core.proofs.Public.{one_best, file_there, files_there}
use Rattle.sender_plan.specs.declared.params.Params.{Params}
use Rattle.sender_plan.specs.CatalogInstance.{CatalogInstance}
use Rattle.sender_plan.specs.Installed.{shown_of, Carries}
use Rattle.sender_plan.specs.PlanOf.{IsPlanOf}
use Rattle.sender_plan.specs.Session.{SentObject, Session, object_of}
use Rattle.sender_plan.proofs.Public.{of_mapped}
use Rattle.sender_plan.proofs.Public.{file_objects, descriptor_object, any_descriptor}
use Rattle.sender_schedule.specs.Datagram.{sent_of}
use Rattle.sender_schedule.specs.Schedule.{schedule}
use Rattle.run_headline.specs.Headline.{IsDatagramOf}
use Rattle.run_headline.specs.LastInstance.{IsReadyIn, AreReadyIn}
use Rattle.run_headline.specs.SentSession.{objects_sent}
use Rattle.run_headline.proofs.Headline.{installed_is_best, packets_are}
use Rattle.run_headline.proofs.SentSession.{session_is, all_of_session}

-- ---- the objects that are ready

ready_is : (s : Session) (set : Held) (t : ℕ) (o : SentObject) → 1 ≤ t → object_of s t ≡ Some o → IsReadyIn (objects_sent s) set t
    → ready_objects (objects_sent s) set t ≡ Some o.bytes
unfolding ready_objects
ready_is s set t o some is ready =
    let sent : objects_sent s t ≡ Some (sent_of o) =
    ap (λ none. if none then None else option_map sent_of (object_of s t)) (ne_eqb t 0 (λ zero. omega (arith, zero, some))) ∙ ap (option_map sent_of) is in
    ap (sent_when_ready set t) sent ∙ ap (λ b. if b then Some o.bytes else None) (ready (sent_of o) sent)

when_ready : (b : Bool) (own bytes : List ℕ) → (if b then Some own else None) ≡ Some bytes → own ≡ bytes
when_ready true own bytes is = cc
when_ready false own bytes is = absurd cc

-- what is ready is an object of the session
ready_from : (s : Session) (set : Held) (t : ℕ) (bytes : List ℕ) → ready_objects (objects_sent s) set t ≡ Some bytes
    → (o : SentObject) × (1 ≤ t) × (object_of s t ≡ Some o) × (o.bytes ≡ bytes)
unfolding ready_objects
ready_from s set t bytes is = by (t == 0) refl (object_of s t) refl is
  where
    by : (none : Bool) → (t == 0) ≡ none → (o : Option SentObject) → object_of s t ≡ o
        → sent_when_ready set t (if none then None else option_map sent_of o) ≡ Some bytes
        → (o : SentObject) × (1 ≤ t) × (object_of s t ≡ Some o) × (o.bytes ≡ bytes)
    by true zero o found is = absurd cc
    by false zero None found is = absurd cc
    by false zero (Some o) found is = (o, omega (arith, eqb-false t 0 zero), found, when_ready (is_ready set t o.oti) o.bytes bytes is)

-- ---- no instance that is announced is better

lower_is_no_better : (j i : Shown) → j.number < i.number → is_better j i ≡ false
lower_is_no_better j i less = grind (arith, nat_tests)

same_is_no_better : (j i : Shown) → j.number ≡ i.number → j.descriptor_toi ≡ i.descriptor_toi → is_better j i ≡ false
same_is_no_better j i number toi = grind (arith, nat_tests)

mapped_from : {A B : Type 0} (f : A → B) (o : Option A) (b : B) → option_map f o ≡ Some b → (a : A) × (o ≡ Some a) × (f a ≡ b)
mapped_from f None b is = absurd cc
mapped_from f (Some a) b is = (a, refl, cc)

-- ---- the last instance

module _ (bodies : List (List ℕ)) (front : List CatalogInstance) (last : CatalogInstance) (params : Params) (s : Session)
    (plan : IsPlanOf (front ++ last ∷ []) bodies params s) where
  abbrev shown : Shown
  shown = shown_of (front ++ last ∷ []) bodies last

  module _ (set : Held) (ready : AreReadyIn (objects_sent s) set (shown_of (front ++ last ∷ []) bodies last)) where
    abbrev objects : Objects
    objects = ready_objects (objects_sent s) set

    files_are : files_of objects shown.listed ≡ Some shown.files
    files_are =
        let ready_files = of_mapped (IsReadyIn (objects_sent s) set) toi_of shown.files
        (All-tail (IsReadyIn (objects_sent s) set) shown.descriptor_toi shown.listed ready) in
        files_there objects shown.files (λ at d within.
        let f = get_or shown.files at d in
        let has = file_objects bodies front last params s plan at d within in
        file_there objects f has.object.bytes (ready_is s set f.toi has.object has.some has.there (ready_files at d within)) has.reads)

    announced : complete objects shown.descriptor_toi ≡ Some shown
    announced =
        let has = descriptor_object bodies front last params s plan in
        let here = ready_is s set shown.descriptor_toi has.object has.some has.there
        (All-head (IsReadyIn (objects_sent s) set) shown.descriptor_toi shown.listed ready) in
        complete_descriptor objects shown.descriptor_toi last.number shown.listed (ap (option_map kind_of_object) here ∙ ap (λ k. Some k) has.reads)
        ∙ ap (option_map (λ fs. record { number = last.number; descriptor_toi = shown.descriptor_toi; listed = shown.listed; files = fs })) files_are

    greatest : (t : ℕ) (j : Shown) → complete objects t ≡ Some j → is_better j shown ≡ false
    greatest t j is =
        let read = mapped_from kind_of_object (objects t) (kinds.Descriptor j.number j.listed) (descriptor_of objects t j is) in
        let o = ready_from s set t read.0 read.1 in
        let has : Carries s t (kinds.Descriptor j.number j.listed) = record { some = o.1; object = o.0; there = o.2; reads = ap kind_of_object o.3 ∙ read.2 } in
        elim (any_descriptor bodies front last params s plan t j.number j.listed has) [
          | inl less ↦ lower_is_no_better j shown less
          | inr both ↦ same_is_no_better j shown both.0 (complete_named objects t j is ∙ both.1)
        ]

    ready_is_best : IsBestOf objects (Some shown)
    ready_is_best = record { announced = announced; greatest = greatest }

  pub last_is_best : (budget : ℕ) (ps : List SymbolPacket) → AreOf (objects_sent s) ps → set_count (gathered ps) ≤ budget
      → AreReadyIn (objects_sent s) (gathered ps) shown → IsBestOf (ready_objects (objects_sent s) (gathered (kept budget ps))) (Some shown)
  last_is_best budget ps are within ready =
      subst (λ (qs : List SymbolPacket). IsBestOf (ready_objects (objects_sent s) (gathered qs)) (Some shown))
      (sym (all_kept (objects_sent s) budget ps (session_is s plan.sound) are within)) (ready_is_best (gathered ps) ready)

  pub last_is_installed : (budget : ℕ) (ps : List SymbolPacket) → AreOf (objects_sent s) ps → set_count (gathered ps) ≤ budget
      → AreReadyIn (objects_sent s) (gathered ps) shown → installed_after budget ps ≡ Some shown
  last_is_installed budget ps are within ready =
      let objects : Objects = ready_objects (objects_sent s) (gathered (kept budget ps)) in
      one_best objects (installed_after budget ps) (Some shown)
      (installed_is_best (objects_sent s) budget ps (session_is s plan.sound) are)
      (last_is_best budget ps are within ready)

  -- any datagrams of the schedule are packets of the session
  pub datagrams_install : (budget : ℕ) (ds : List (List ℕ)) → All (Contains (schedule s)) ds → set_count (gathered (packets_of s.tsi ds)) ≤ budget
      → AreReadyIn (objects_sent s) (gathered (packets_of s.tsi ds)) shown → installed_after budget (packets_of s.tsi ds) ≡ Some shown
  datagrams_install budget ds sent within ready =
      let is = IsDatagramOf (objects_sent s) s.tsi in
      let all = all_of_session s plan.sound in
      let are = packets_are (objects_sent s) s.tsi ds (λ at d less. All-contains is (schedule s) (get_or ds at d) all (sent at d less)) in
      last_is_installed budget (packets_of s.tsi ds) are within ready
