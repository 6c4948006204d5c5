-- those that went so far and those that are to go are all
use Rattle.std.specs.BTreeMap.{btree_map_len}
use Rattle.receiver_core.proofs.Beaten.{Going}
use Rattle.receiver_core.proofs.sweeping.sweep.Given as goal

abbrev pub invariant-loop-toi : goal.invariant-loop-toi
invariant-loop-toi l = record {
  going : Going l.installed l.fn.waiting l.all l.waiting;
}

abbrev pub decreases-loop-toi : goal.decreases-loop-toi
decreases-loop-toi l = btree_map_len l.all
