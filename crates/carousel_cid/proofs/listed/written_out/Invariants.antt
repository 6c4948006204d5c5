-- the identifiers so far, with those of the runs that are left, are all
use Rattle.std.proofs.Common.{◌≡◌, ◌++◌}
use Rattle.std.specs.List.{AllByRecursion}
use Rattle.carousel_cid.specs.Inner.Runs.{IsRun, left}
use Rattle.carousel_cid.proofs.listed.written_out.Given as goal

abbrev pub invariant-loop-run : goal.invariant-loop-run
invariant-loop-run l = record {
  all : l.all.items ++ left l.run-iterator.iter.rest.now ≡ left l.runs;
  runs : AllByRecursion IsRun l.run-iterator.iter.rest.now;
}
