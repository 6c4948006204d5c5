-- the identifiers so far, with those from here on, are all
use Rattle.std.proofs.Common.{◌≡◌, ◌-◌, ◌++◌}
use Rattle.std.specs.List.{range_with_len}
use Rattle.carousel_cid.specs.Inner.Runs.{range_of}
use Rattle.carousel_cid.proofs.listed.push_all.Given as goal

abbrev pub invariant-loop-toi : goal.invariant-loop-toi
invariant-loop-toi l = record {
  all : l.all.items ++ range_with_len l.toi (l.toi-end - l.toi) ≡ l.fn.all.items ++ range_of l.fn.run;
}
