-- The total of the bodies so far, each of which has at most 16 MiB.
use Rattle.std.proofs.Common.{◌≡◌, ◌*◌, ◌≤◌, take}
use Rattle.sender_plan.specs.Plan.{total_of}
use Rattle.sender_plan.proofs.planning.total_len.Given as goal

abbrev pub invariant-loop-body : goal.invariant-loop-body
invariant-loop-body l = record {
  whole : l.total ≡ total_of (take l.body-index l.bodies);
  bound : l.total ≤ 16777216 * l.body-index;
}
