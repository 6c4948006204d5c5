-- The events that the watchers of a run have heard, by cases on how it ended.
use Rattle.std.specs.Prelude.{◌≡◌, ℕ, List, ◌++◌, Result, Ok, Err}
use Rattle.watch_list.specs.declared.event.Event.{Event}
use Rattle.run_base.specs.declared.fault.Fault.{Fault}
use Rattle.run_base.specs.declared.fault.Fault.TheVariants.{Datagrams, Text, Emit, Shelf, Files, Memory}

-- the first of the events were heard
pub record HearsPart (events : List Event) (Hears : List Event → Type 0) : Type 0 where
  pub front : List Event
  pub rest : List Event
  pub is : events ≡ front ++ rest
  pub hears : Hears front

-- the events of the first of the datagrams were heard
pub record HearsFirst (first : ℕ → List Event) (Hears : List Event → Type 0) : Type 0 where
  pub taken : ℕ
  pub hears : Hears (first taken)

-- all events of the datagrams that are taken; those of the first ones, where the datagrams failed; the first events, where
-- there was no memory
abbrev pub Tells : {A : Type 0} → Result A Fault → List Event → (ℕ → List Event) → (List Event → Type 0) → Type 0
Tells (Ok done) events first Hears = Hears events
Tells (Err Datagrams) events first Hears = HearsFirst first Hears
Tells (Err Text) events first Hears = Hears events
Tells (Err Emit) events first Hears = Hears events
Tells (Err Shelf) events first Hears = Hears events
Tells (Err Files) events first Hears = Hears events
Tells (Err Memory) events first Hears = HearsPart events Hears
