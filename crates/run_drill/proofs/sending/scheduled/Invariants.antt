-- the datagrams so far with those that are left are all
use Rattle.std.proofs.Common.{◌≡◌, ◌++◌, length}
use Rattle.sender_schedule.specs.Schedule.{schedule}
use Rattle.run_drill.proofs.sending.scheduled.Given as goal

abbrev pub invariant-loop-datagram : goal.invariant-loop-datagram
invariant-loop-datagram l = l.out.items ++ l.schedule ≡ schedule l.session

abbrev pub decreases-loop-datagram : goal.decreases-loop-datagram
decreases-loop-datagram l = length l.schedule
