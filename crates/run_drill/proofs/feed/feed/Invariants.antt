-- the datagrams before this one are taken
use Rattle.std.proofs.Common.{◌≡◌, ◌+◌, ◌-◌, ◌≤◌, ◌^◌, min, take}
use Rattle.held_packets.specs.Verdict.{steps_of}
use Rattle.receiver_core.specs.Classes.{packets_of}
use Rattle.run_receive.specs.HasTaken.{HasTaken}
use Rattle.run_drill.proofs.feed.feed.Given as goal

abbrev pub invariant-loop-datagram : goal.invariant-loop-datagram
invariant-loop-datagram g l = record {
  tsi : l.receiver.tsi ≡ 1;
  budget : l.receiver.budget ≡ 67108864;
  few : l.receiver.drops ≤ l.datagram-index;
  count : l.steps.count ≡ min (l.fn.steps.count + steps_of 67108864 (packets_of 1 (take l.datagram-index l.datagrams))) (2 ^ 64 - 1);
  taken : HasTaken l.receiver (take l.datagram-index l.datagrams);
}
