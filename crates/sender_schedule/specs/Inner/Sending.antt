-- Objects that can be sent.
use Rattle.std.specs.Prelude.{◌^◌, ◌<◌, ◌≤◌}
use Rattle.oti_blocks.specs.Partition.{symbol_of}
use Rattle.oti_blocks.specs.Sent.{IsSent}
use Rattle.sender_plan.specs.Session.{SentObject}
use Rattle.sender_schedule.specs.Datagram.{sent_of}

-- what holds of each object of a session
pub record CanBeSent (o : SentObject) : Type 0 where
  pub toi : o.toi < 2 ^ 112
  pub sent : IsSent (sent_of o)
  pub symbol : symbol_of o.oti ≤ 65475
