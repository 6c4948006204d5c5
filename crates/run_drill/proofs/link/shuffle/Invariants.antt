-- putting the places that are left in another order makes the order of all
use Rattle.std.proofs.Common.{◌≡◌, ◌-◌, ◌≤◌, length}
use Rattle.run_drill.specs.Drill.{shuffled, reordered}
use Rattle.run_drill.proofs.link.shuffle.Given as goal

abbrev pub invariant-loop-left : goal.invariant-loop-left
invariant-loop-left l = record {
  order : shuffled (l.left - 1) l.generator.state l.datagrams ≡ reordered l.fn.generator.state l.fn.datagrams;
  within : l.left ≤ length l.datagrams;
}

abbrev pub decreases-loop-left : goal.decreases-loop-left
decreases-loop-left l = l.left
