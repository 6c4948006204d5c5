-- the datagrams that aren't left are sent
use Rattle.std.proofs.Common.{◌≡◌, ◌≤◌, length}
use Rattle.sender_schedule.specs.Schedule.{schedule}
use Rattle.run_send.specs.Inner.Stages.{HasSent}
use Rattle.run_send.proofs.transmit.send_all.Given as goal

abbrev pub invariant-loop-datagram : goal.invariant-loop-datagram
invariant-loop-datagram g l = let E = g.E.Emit in record {
  told : E.told l.fn.emit → E.told l.emit;
  sends : E.told l.fn.emit → HasSent l.schedule (schedule l.session) (E.sent l.fn.emit) (E.sent l.emit);
  place : E.connected l.emit ≡ E.connected l.fn.emit;
  grows : E.faults l.fn.emit ≤ E.faults l.emit;
}

abbrev pub decreases-loop-datagram : goal.decreases-loop-datagram
decreases-loop-datagram g l = length l.schedule
