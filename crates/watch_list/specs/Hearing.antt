-- What a watcher has heard and what it may refuse, and what a list of watchers has heard.
use Rattle.std.specs.Prelude.{◌≡◌, ℕ, ◌+◌, List, [], ◌∷◌, ◌++◌, length, ◌⊎◌}
use Rattle.edge_io.specs.Faults.{Rose}
use Rattle.watch_list.specs.declared.event.Event.{Event}

-- what a watcher has
pub record Hearing : Type 1 where
  -- how many events it heard
  pub number : ℕ
  -- it keeps the list of what it heard, and shows it
  pub told : Type 0
  -- the events that it heard, the first one first, where they are told
  pub events : List Event
  -- how often it failed to hear
  pub faults : ℕ
  -- having heard these events from now on, it may refuse this one, and then has this count of faults
  pub refuses : List Event → Event → ℕ → Type 0

-- The watcher has heard these events since it was the old one, in order, and no other, and failed at none. What it may refuse
-- later the old one may refuse after these events.
pub record HasHeard (heard : List Event) (old new : Hearing) : Type 0 where
  pub number : new.number ≡ old.number + length heard
  pub told : old.told → new.told
  pub events : old.told → new.events ≡ old.events ++ heard
  pub faults : new.faults ≡ old.faults
  pub refuses : (before : List Event) (event : Event) (count : ℕ) → new.refuses before event count → old.refuses (heard ++ before) event count

-- The watcher heard some of the events, in order, and then refused the next one, where its count of faults rose.
abbrev pub HasRefused : List Event → Hearing → Type 0
HasRefused events old =
    (before after : List Event) × (event : Event) × (count : ℕ)
    × (events ≡ before ++ event ∷ after) × old.refuses before event count × Rose old.faults count

-- each of the old list, in order, stands in the new list as Stays says, or it is gone as Goes says
abbrev pub Sifted : {B : Type 0} → (B → B → Type 0) → (B → Type 0) → List B → List B → Type 0
Sifted Stays Goes [] new = new ≡ []
Sifted {B} Stays Goes (v ∷ vs) new =
    ((w : B) × (ws : List B) × (new ≡ w ∷ ws) × Stays v w × Sifted Stays Goes vs ws)
    ⊎ (Goes v × Sifted Stays Goes vs new)

-- The watchers that are left have heard these events since they were the old ones, in order. Those that are gone refused one of
-- them. Nobody is new, and the order is the old one.
abbrev pub Heard : {B : Type 0} → (B → Hearing) → List Event → List B → List B → Type 0
Heard hearing events old new = Sifted (λ v w. HasHeard events (hearing v) (hearing w)) (λ v. HasRefused events (hearing v)) old new
