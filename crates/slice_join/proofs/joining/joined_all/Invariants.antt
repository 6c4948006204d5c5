-- the entries so far are joined
use Rattle.std.proofs.Common.{◌≡◌, map, take}
use Rattle.slice_join.specs.Joins.{joined}
use Rattle.slice_join.proofs.joining.joined_all.Given as goal

abbrev pub invariant-loop-entry : goal.invariant-loop-entry
invariant-loop-entry l = l.all.items ≡ map joined (take l.entry-index l.entries)
