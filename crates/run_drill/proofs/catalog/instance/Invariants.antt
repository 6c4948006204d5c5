-- the files before this one are in the instance
use Rattle.std.proofs.Common.{◌≡◌}
use Rattle.std.specs.Prelude.{map}
use Rattle.std.specs.List.{range_with_len}
use Rattle.run_drill.specs.Drill.{item}
use Rattle.run_drill.proofs.catalog.instance.Given as goal

abbrev pub invariant-loop-place : goal.invariant-loop-place
invariant-loop-place l = record {
  number : l.instance.number ≡ l.number;
  items : l.instance.items ≡ map item (range_with_len l.first l.place);
}
