-- A receiver that has taken a list of datagrams.
use Rattle.std.specs.Prelude.{◌≡◌, ℕ, List, All}
use Rattle.wire_bytes.specs.Bytes.{AreBytes}
use Rattle.held_packets.specs.Verdict.{held_after}
use Rattle.held_packets.specs.KeptSet.{drops}
use Rattle.receiver_core.specs.Classes.{packets_of}
use Rattle.receiver_core.specs.BestOf.{installed_after}
use Rattle.receiver_core.specs.Receiver.{Receiver}

pub record HasTaken (r : Receiver) (datagrams : List (List ℕ)) : Type 0 where
  pub held : r.held ≡ held_after r.budget (packets_of r.tsi datagrams)
  pub installed : r.installed ≡ installed_after r.budget (packets_of r.tsi datagrams)
  pub drops : r.drops ≡ drops r.budget (packets_of r.tsi datagrams)

-- there is a list of datagrams that it has taken
pub record HasTakenSome (r : Receiver) : Type 0 where
  pub datagrams : List (List ℕ)
  pub bytes : All AreBytes datagrams
  pub has : HasTaken r datagrams
