-- the identifiers so far, with those from here on, are those of the whole range
use Rattle.std.proofs.Common.{◌≡◌, ◌+◌, ◌-◌}
use Rattle.std.specs.List.{range_with_len, AllByRecursion}
use Rattle.carousel_cid.specs.IdentifierList.{identifiers_of}
use Rattle.carousel_cid.specs.Inner.Runs.{IsRun, AreSeen}
use Rattle.carousel_cid.specs.Inner.Walks.{added_all}
use Rattle.carousel_cid.proofs.adding.add_range.Given as goal

abbrev pub invariant-loop-at : goal.invariant-loop-at
invariant-loop-at l = record {
  all : added_all (identifiers_of l.runs.items) (range_with_len l.at (l.last + 1 - l.at))
      ≡ added_all (identifiers_of l.fn.runs.items) (range_with_len l.fn.first (l.last + 1 - l.fn.first));
  runs : AllByRecursion IsRun l.runs.items;
  seen : AreSeen l.seen (identifiers_of l.runs.items);
}

abbrev pub decreases-loop-at : goal.decreases-loop-at
decreases-loop-at l = l.last + 1 - l.at
