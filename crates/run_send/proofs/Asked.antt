-- A session that is asked is planned of what the catalog lists, and of the bodies of its files.
use Rattle.std.proofs.Common.{◌≡◌, ℕ, ◌+◌, ◌≤◌, Bool, true, false, List, [], ◌∷◌, Option, Some, None, length, map, refl, sym, ap, subst, ◌∙◌}
use Rattle.std.specs.Prelude.{Result, Ok, Err, nat_lt, if◌then◌else◌, option_map}
use Rattle.std.proofs.lemmas.Bool.{ltb-false}
use Rattle.wire_bytes.specs.FirstFault.{first_fault, unless_fault}
use Rattle.sender_plan.specs.Catalog.{reading}
use Rattle.sender_plan.specs.CatalogInstance.{CatalogInstance}
use Rattle.sender_plan.specs.Check.{most_bytes}
use Rattle.sender_plan.specs.Names.{names_of}
use Rattle.sender_plan.specs.Plan.{planned, plan_faults}
use Rattle.sender_plan.specs.Session.{Session, IsSession}
use Rattle.sender_plan.specs.declared.fault.PlanFault.{PlanFault}
use Rattle.sender_plan.specs.declared.fault.PlanFault.TheVariants.{TooLarge}
use Rattle.sender_plan.proofs.Public.{fit_listed}
use Rattle.run_send.specs.Send.{Found, and_then, most_file, bytes_under, unless_bad, catalog_in, refusal_of, unless_any, within, bodies_of, checked, session_of, asked, IsPlannedOf}
use Rattle.run_send.specs.declared.sending.Sending.{Sending}
use Rattle.run_send.specs.declared.sending.Refusal.{Refusal}
use Rattle.run_send.specs.declared.sending.Refusal.TheVariants.{Line, TooBig}

-- where nothing refused, there is what was asked first, and what was asked with it
then_ok : {A B : Type 0} (o : Result A Refusal) (f : A → Result B Refusal) (b : B) → and_then o f ≡ Ok b → (a : A) × (o ≡ Ok a) × (f a ≡ Ok b)
then_ok (Ok a) f b is = (a, refl, is)
then_ok (Err refusal) f b is = absurd cc

bytes_found : (name : List ℕ) (o : Option (List ℕ)) (bytes : List ℕ) → bytes_under name o ≡ Ok bytes → (o ≡ Some bytes) × (length bytes ≤ 16777216)
bytes_found name None bytes is = absurd cc
bytes_found name (Some own) bytes is = by (nat_lt most_file (length own)) refl is
  where
    by : (t : Bool) → nat_lt most_file (length own) ≡ t → (if t then Err (TooBig name) else Ok own) ≡ Ok bytes → (Some own ≡ Some bytes) × (length bytes ≤ 16777216)
    by true more is = absurd cc
    by false less is =
        let same : own ≡ bytes = cc in
        (ap (λ b. Some b) same, subst (λ (b : List ℕ). length b ≤ 16777216) same (ltb-false most_file (length own) less))

listed_found : (text : List ℕ) (instances : List CatalogInstance) → catalog_in text ≡ Ok instances → reading text ≡ Ok instances
listed_found text instances is = elim (reading text) as (λ r. unless_bad (λ bad. Line bad.line bad.cause) r ≡ Ok instances → r ≡ Ok instances) [
  | Ok listed ↦ λ same. cc
  | Err bad ↦ λ same. absurd cc
] is

none_held : {A : Type 0} (faults : List (Option PlanFault)) (value a : A) → unless_any faults value ≡ Ok a → (first_fault faults ≡ None) × (value ≡ a)
none_held {A} faults value a is = by (first_fault faults) refl is
  where
    by : (o : Option PlanFault) → first_fault faults ≡ o → unless_fault (option_map refusal_of o) value ≡ Ok a → (first_fault faults ≡ None) × (value ≡ a)
    by None none is = (none, cc)
    by (Some fault) some is = absurd cc

body_within : (before : ℕ) (own body : List ℕ) → within before own ≡ Ok body → own ≡ body
body_within before own body is = by (nat_lt most_bytes (before + length own)) is
  where
    by : (t : Bool) → (if t then Err (refusal_of (TooLarge (before + length own))) else Ok own) ≡ Ok body → own ≡ body
    by true is = absurd cc
    by false is = cc

-- the bodies stand under the names
bodies_found : (found : Found) (before : ℕ) (names bodies : List (List ℕ)) → bodies_of found before names ≡ Ok bodies
    → map found names ≡ map (λ body. Some body) bodies
bodies_found found before [] bodies is = let none : [] ≡ bodies = cc in ap (map (λ (body : List ℕ). Some body)) none
bodies_found found before (name ∷ names) bodies is =
    let first = then_ok (and_then (bytes_under name (found name)) (within before)) _ bodies is in
    let own = then_ok (bytes_under name (found name)) (within before) first.0 first.1 in
    let rest = then_ok (bodies_of found (before + length first.0) names) _ bodies first.2 in
    let here : found name ≡ Some first.0 = (bytes_found name (found name) own.0 own.1).0 ∙ ap (λ b. Some b) (body_within before own.0 first.0 own.2) in
    let all : first.0 ∷ rest.0 ≡ bodies = cc in
    (λ i. here i ∷ bodies_found found (before + length first.0) names rest.0 rest.1 i) ∙ ap (map (λ (body : List ℕ). Some body)) all

pub planned_of : (found : Found) (s : Sending) (session : Session) → asked found s ≡ Ok session → IsSession session → IsPlannedOf found s session
planned_of found s session is sound =
    let text = then_ok (bytes_under s.catalog (found s.catalog)) _ session is in
    let there = bytes_found s.catalog (found s.catalog) text.0 text.1 in
    let instances = then_ok (catalog_in text.0) (session_of found s.params) session text.2 in
    let listed = listed_found text.0 instances.0 instances.1 in
    let none = then_ok (checked instances.0 s.params) _ session instances.2 in
    let bodies = then_ok (bodies_of found 0 (names_of instances.0)) _ session none.2 in
    let plan = none_held (plan_faults instances.0 bodies.0 s.params) (planned instances.0 bodies.0 s.params) session bodies.2 in
    record {
      text = text.0;
      instances = instances.0;
      bodies = bodies.0;
      there = there.0;
      listed = listed;
      read = bodies_found found 0 (names_of instances.0) bodies.0 bodies.1;
      plan = record { fit = fit_listed text.0 instances.0 listed there.1; none = plan.0; made = sym plan.1; sound = sound };
    }
