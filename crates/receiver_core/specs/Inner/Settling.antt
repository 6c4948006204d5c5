-- What a receiver keeps between two calls of `settle`.
use Rattle.std.specs.Prelude.{◌≡◌, ◌≢◌, ◌≤◌, ℕ, Bool, false, if◌then◌else◌, List, [], Option, Some, None, take, length}
use Rattle.carousel_cid.specs.Instances.{Shown}
use Rattle.object_store.specs.Store.{Store, is_in}
use Rattle.held_packets.specs.Whole.{whole}
use Rattle.receiver_core.specs.Best.{Objects, complete, IsBestOf}
use Rattle.receiver_core.specs.Inner.Standings.{Standings, AreStandings}
use Rattle.receiver_core.specs.Inner.Waiting.{Waiting, AreWaiting, AreCovered}

-- these of the objects
abbrev pub only : Objects → List ℕ → Objects
only objects ts t = if is_in t ts then objects t else None

-- what is installed is announced
abbrev pub IsAnnounced : Objects → Option Shown → Type 0
IsAnnounced objects None = Unit {0}
IsAnnounced objects (Some b) = complete objects b.descriptor_toi ≡ Some b

-- The first n of the ready objects are read: their standings are known, and their descriptors wait where they may
-- become better than what is installed. What is said of candidates is of all that is whole.
pub record IsRead (store : Store) (known : Standings) (waiting : Waiting) (n : ℕ) (installed : Option Shown) : Type 0 where
  pub within : n ≤ length store.ready
  pub standings : AreStandings (whole store.held) (take n store.ready) known
  pub waits : AreWaiting (whole store.held) known waiting
  pub covered : AreCovered (whole store.held) installed waiting [] (take n store.ready)
  pub announced : IsAnnounced (whole store.held) installed

-- The first n of the ready objects are settled: they are read, but that candidates may be lost, and what is installed
-- is the best of them.
pub record IsSettling (store : Store) (known : Standings) (waiting : Waiting) (n : ℕ) (lost : Bool) (installed : Option Shown) : Type 0 where
  pub within : n ≤ length store.ready
  pub standings : AreStandings (whole store.held) (take n store.ready) known
  pub waits : AreWaiting (whole store.held) known waiting
  pub covered : lost ≡ false → AreCovered (whole store.held) installed waiting [] (take n store.ready)
  pub best : IsBestOf (only (whole store.held) (take n store.ready)) installed

-- what was found is the best, where it isn't what was installed
abbrev pub Finds : Objects → Option Shown → Option Shown → Type 0
Finds objects old None = IsBestOf objects old
Finds objects old (Some i) = IsBestOf objects (Some i) × (Some i ≢ old)
