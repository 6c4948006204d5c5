-- The place in the rest is that in the list.
use Rattle.std.proofs.Common.{◌≡◌, ◌+◌, drop}
use Rattle.sender_plan.specs.Check.{too_many}
use Rattle.sender_plan.proofs.params.too_many.Given as goal

abbrev pub invariant-loop-instance : goal.invariant-loop-instance
invariant-loop-instance l = record {
  place : l.at ≡ l.instance-index;
  whole : too_many (l.at + 1) (drop l.instance-index l.instances) ≡ too_many 1 l.instances;
}
