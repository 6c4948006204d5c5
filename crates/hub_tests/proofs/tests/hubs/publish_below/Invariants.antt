use Rattle.std.proofs.Common.{◌≤◌, length}
use Rattle.snapshot_hub.specs.Histories.{height}
use Rattle.hub_tests.proofs.tests.hubs.publish_below.Given as goal

-- each number so far was published once
abbrev pub invariant-loop-number : goal.invariant-loop-number
invariant-loop-number g l = record {
  height : height l.publisher ≤ l.number;
  length : length l.publisher ≤ l.number;
}
