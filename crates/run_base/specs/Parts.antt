-- What text, sink and shelf hold where a run stopped in the middle.
use Rattle.std.specs.Prelude.{◌≡◌, ℕ, ◌<◌, List, ◌++◌, length, take}
use Rattle.edge_io.specs.Shelved.{Shelved}
use Rattle.edge_io.specs.ShelfCalls.{Call, after}

-- a part of the list was added at the end: the first of it
pub record AddsPart {A : Type 0} (list old new : List A) : Type 0 where
  pub added : ℕ
  pub all : new ≡ old ++ take added list

-- some of the calls were accepted: the first ones
pub record AcceptsPart (calls : List Call) (old new : Shelved) : Type 0 where
  pub accepted : ℕ
  pub holds : new ≡ after (take accepted calls) old

-- some of the calls were accepted, and not all of them
pub record AcceptsFewer (calls : List Call) (old new : Shelved) : Type 0 where
  pub accepted : ℕ
  pub fewer : accepted < length calls
  pub holds : new ≡ after (take accepted calls) old
