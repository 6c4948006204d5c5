-- the first place that isn't there is among those left
use Rattle.std.proofs.Common.{◌≡◌, ℕ, ◌+◌, ◌-◌, List}
use Rattle.std.specs.BTreeMap.{get}
use Rattle.std.specs.List.{range_with_len}
use Rattle.std.specs.Option.{is_some}
use Rattle.std.specs.Ordering.{nat_cmp}
use Rattle.slice_join.specs.Faults.{is_among, missing, places_to}
use Rattle.slice_join.proofs.joining.complete.Given as goal

abbrev pub invariant-loop-before : goal.invariant-loop-before
invariant-loop-before l = (places : List ℕ) → ((p : ℕ) → is_some (get nat_cmp l.parts p) ≡ is_among places p)
    → missing places (places_to l.count) ≡ missing places (range_with_len (l.before + 1) (l.count - l.before))
