-- the first slice that differs is among those left
use Rattle.std.proofs.Common.{◌≡◌, drop}
use Rattle.slice_join.specs.Faults.{first_where, disagrees}
use Rattle.slice_join.proofs.joining.agree.Given as goal

abbrev pub invariant-loop-told : goal.invariant-loop-told
invariant-loop-told l = first_where (disagrees l.first) l.all ≡ first_where (disagrees l.first) (drop l.told-index l.all)
