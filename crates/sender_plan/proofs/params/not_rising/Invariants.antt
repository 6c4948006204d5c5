-- The place in the rest is that in the list.
use Rattle.std.proofs.Common.{◌≡◌, ◌+◌, None, drop}
use Rattle.sender_plan.specs.Check.{not_rising}
use Rattle.sender_plan.proofs.params.not_rising.Given as goal

abbrev pub invariant-loop-instance : goal.invariant-loop-instance
invariant-loop-instance l = record {
  place : l.at ≡ l.instance-index;
  whole : not_rising (l.at + 1) l.before (drop l.instance-index l.instances) ≡ not_rising 1 None l.instances;
}
