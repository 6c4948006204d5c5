use Rattle.slice_join.proofs.SliceTypes.{kind_is_slice, kind_again, slice_kind_only}
use Rattle.slice_join.proofs.laws.types_of_slices.Goals as goal

pub returns-clause-one : goal.returns-clause-one
returns-clause-one c kind = (kind_is_slice kind, kind_again kind)

pub returns-clause-only : goal.returns-clause-only
returns-clause-only c = slice_kind_only
