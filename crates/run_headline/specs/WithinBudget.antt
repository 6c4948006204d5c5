-- A session's list that is within the budget, and the status that its best instance says.
use Rattle.std.specs.Prelude.{ℕ, ◌≤◌, List, All, Option, Some, None}
use Rattle.carousel_cid.specs.Instances.{Shown}
use Rattle.held_packets.specs.Session.{Session}
use Rattle.held_packets.specs.KeptSet.{gathered, set_count}
use Rattle.run_base.specs.Bounds.{datagrams_taken}
use Rattle.run_base.specs.declared.settings.Settings.{Settings}
use Rattle.run_base.specs.declared.status.Status.{Status}
use Rattle.run_base.specs.declared.status.Status.TheVariants.{Done, NothingInstalled}
use Rattle.run_receive.specs.Outcome.{packets_taken}
use Rattle.run_headline.specs.Headline.{IsDatagramOf}

-- the datagrams that are taken are the session's, and their packets are within the budget together
pub record IsWithinBudget (s : Session) (c : Settings) (left : List (List ℕ)) : Type 0 where
  pub datagrams : All (IsDatagramOf s c.tsi) (datagrams_taken c left)
  pub within : set_count (gathered (packets_taken c left)) ≤ c.budget

-- done where there is an instance
abbrev pub status_with : Option Shown → Status
status_with None = NothingInstalled
status_with (Some i) = Done
