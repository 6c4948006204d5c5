-- What a task comes to where what it reads is told and nothing fails, and which parts of the outside it uses.
use Rattle.std.specs.Prelude.{ℕ, Bool, true, false, List, [], Option, Some, None}
use Rattle.edge_io.specs.ShelfCalls.{Call}
use Rattle.edge_io.specs.declared.place.Place.{Place}
use Rattle.watch_list.specs.declared.event.Event.{Event}
use Rattle.run_base.specs.declared.status.Status.{Status}

pub record Outcome : Type 0 where
  pub status : Status
  -- all that the text gets, all datagrams that the sink gets, all calls that the shelf gets
  pub text : List ℕ
  pub sent : List (List ℕ)
  pub calls : List Call
  -- all events that the watchers hear, and those of the first so many of the datagrams
  pub events : List Event
  pub first_events : ℕ → List Event
  -- how many datagrams are asked for
  pub asked : ℕ

-- of a task that asks for so many datagrams, and gives its text alone
abbrev pub text_outcome : Status → List ℕ → ℕ → Outcome
text_outcome status text asked =
    record { status = status; text = text; sent = []; calls = []; events = []; first_events = λ n. []; asked = asked }

-- A task writes once, after all else; or then in several pieces; or while it takes the datagrams.
pub data Writes : Type 0 where
  Once : Writes
  Pieces : Writes
  Streams : Writes

-- Text is for every task. The datagrams and the sink are connected to these places, where the task uses them.
pub record Uses : Type 0 where
  pub datagrams : Option Place
  pub emit : Option Place
  pub files : Bool
  pub shelf : Bool
  pub watchers : Bool
  pub writes : Writes
  -- the statuses that it can end with where no fault stops it
  pub statuses : List Status

-- of a task that uses its text alone
abbrev pub text_uses : List Status → Uses
text_uses statuses =
    record { datagrams = None; emit = None; files = false; shelf = false; watchers = false; writes = Once; statuses = statuses }

-- the datagrams and the files are told, each where it is used
abbrev pub AreTold : Option Place → Bool → Type 0 → Type 0 → Type 0
AreTold None false datagrams files = Unit {0}
AreTold None true datagrams files = files
AreTold (Some place) false datagrams files = datagrams
AreTold (Some place) true datagrams files = datagrams × files

-- what the task reads is told, where this holds of the datagrams and of the files
abbrev pub IsTold : Uses → Type 0 → Type 0 → Type 0
IsTold u datagrams files = AreTold u.datagrams u.files datagrams files
