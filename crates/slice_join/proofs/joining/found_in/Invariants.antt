-- the bytes of the parts so far
use Rattle.std.proofs.Common.{◌≡◌, map, take}
use Rattle.slice_join.specs.Faults as faults
use Rattle.slice_join.specs.Faults.{said}
use Rattle.slice_join.proofs.joining.found_in.Given as goal

abbrev pub invariant-loop-told : goal.invariant-loop-told
invariant-loop-told l = l.found ≡ faults.found_in (map said (take l.told-index l.all))
