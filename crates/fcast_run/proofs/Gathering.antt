-- A receiver that takes the datagrams of a list, as far as a bound goes: what it has, what the watchers heard, and what was shown.
use Rattle.std.proofs.Common.{◌≡◌, ℕ, ◌≤◌, List, sym, subst, length, take, Option}
use Rattle.std.specs.Prelude.{◌≢◌, Err}
use Rattle.carousel_cid.specs.Instances.{Shown}
use Rattle.receiver_core.specs.Receiver.{Receiver}
use Rattle.watch_list.specs.declared.event.Event.{Event}
use Rattle.watch_list.specs.Hearing.{Hearing, Heard}
use Rattle.run_base.specs.declared.bound.Bound.{Bound}
use Rattle.run_base.specs.declared.bound.Bound.TheVariants.{Most, Count}
use Rattle.run_base.specs.declared.ending.Ending.{Ending}
use Rattle.run_base.specs.declared.ending.Ending.TheVariants.{TooMany}
use Rattle.run_base.specs.declared.fault.Fault.{Fault}
use Rattle.run_base.specs.declared.fault.Fault.TheVariants.{Datagrams, Text, Emit, Shelf, Files, Memory}
use Rattle.run_base.specs.Answers.{Blames}
use Rattle.run_base.specs.Bounds.{limit, less, IsCounted}
use Rattle.run_base.specs.Tellings.{Tells}
use Rattle.run_base.proofs.Public.{AreTaken}
use Rattle.run_receive.specs.Events.{events_of, published_of}
use Rattle.run_receive.specs.HasTaken.{HasTaken}
use Rattle.run_receive.specs.Outcome.{received}
use Rattle.run_receive.proofs.Public.{events_behind}
use Rattle.run_base.specs.declared.settings.Settings.{Settings}

-- of the list `xs` within the bound `all`, of which this is left
pub record HasGathered {B : Type 0} (hearing : B → Hearing) (told shown_told : Type 0) (tsi budget : ℕ) (all : Bound) (xs : List (List ℕ)) (torn : Option ℕ)
    (us : List B) (bound : Bound) (left : List (List ℕ)) (torn_left : Option ℕ) (r : Receiver) (ws : List B) (shown : List Shown) : Type 0 where
  pub count : ℕ
  pub rest : bound ≡ less all count
  pub within : count ≤ limit all
  pub few : r.drops ≤ count
  pub room : shown_told → length shown ≤ count
  pub taken : told → AreTaken count xs torn left torn_left
  pub has : told → HasTaken r (take count xs)
  pub heard : told → Heard hearing (events_of tsi budget (take count xs)) us ws
  pub was_shown : told → shown_told → shown ≡ published_of tsi budget (take count xs)

-- the events of the first datagrams, where the source failed
pub told_at_fault : (A B : Type 0) (f : Fault) (d : Type 0) (tsi budget i : ℕ) (all : Bound) (xs : List (List ℕ)) (Hears : List Event → Type 0)
    → Blames {A = A} (Err f) d ⊥ ⊥ ⊥ ⊥ → i ≤ limit all → Hears (events_of tsi budget (take i xs))
    → Tells {A = B} (Err f) (events_of tsi budget (take (limit all) xs)) (λ n. events_of tsi budget (take n xs)) Hears
told_at_fault A B Datagrams d tsi budget i all xs Hears blames within heard = record { taken = i; hears = heard }
told_at_fault A B Text d tsi budget i all xs Hears blames within heard = absurd blames
told_at_fault A B Emit d tsi budget i all xs Hears blames within heard = absurd blames
told_at_fault A B Shelf d tsi budget i all xs Hears blames within heard = absurd blames
told_at_fault A B Files d tsi budget i all xs Hears blames within heard = absurd blames
told_at_fault A B Memory d tsi budget i all xs Hears blames within heard =
    let rest = events_behind tsi budget i (limit all) xs within in
    record { front = events_of tsi budget (take i xs); rest = rest.0; is = rest.1; hears = heard }

-- a fault goes on as it is
as_told : (A B : Type 0) (f : Fault) (events : List Event) (first : ℕ → List Event) (Hears : List Event → Type 0)
    → Tells {A = A} (Err f) events first Hears → Tells {A = B} (Err f) events first Hears
as_told A B Datagrams events first Hears tells = tells
as_told A B Text events first Hears tells = tells
as_told A B Emit events first Hears tells = tells
as_told A B Shelf events first Hears tells = tells
as_told A B Files events first Hears tells = tells
as_told A B Memory events first Hears tells = tells

pub told_of : (A B : Type 0) (f : Fault) (r : Receiver) (tsi budget most : ℕ) (xs left : List (List ℕ)) (Hears : List Event → Type 0)
    → r.tsi ≡ tsi → r.budget ≡ budget → left ≡ xs
    → Tells {A = A} (Err f) (events_of r.tsi r.budget (take most left)) (λ n. events_of r.tsi r.budget (take n left)) Hears
    → Tells {A = B} (Err f) (events_of tsi budget (take most xs)) (λ n. events_of tsi budget (take n xs)) Hears
told_of A B f r tsi budget most xs left Hears of within same tells =
    let told : ℕ → ℕ → List (List ℕ) → Type 0 = λ t b ds. Tells {A = A} (Err f) (events_of t b (take most ds)) (λ n. events_of t b (take n ds)) Hears in
    as_told A B f _ _ Hears (subst (told tsi budget) same (subst (λ (b : ℕ). told tsi b left) within (subst (λ (t : ℕ). told t r.budget left) of tells)))

-- in the words of the outcome
pub told_received : (A B : Type 0) (f : Fault) (c : Settings) (left : List (List ℕ)) (torn : Option ℕ) (Hears : List Event → Type 0)
    → Tells {A = A} (Err f) (events_of c.tsi c.budget (take (limit c.bound) left)) (λ n. events_of c.tsi c.budget (take n left)) Hears
    → Tells {A = B} (Err f) (received c left torn).events (received c left torn).first_events Hears
unfolding received
told_received A B f c left torn Hears tells = as_told A B f _ _ Hears tells
