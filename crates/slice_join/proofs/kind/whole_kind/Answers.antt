use Rattle.slice_join.specs.SliceKind.{whole_kind, slice_start}
use Rattle.slice_join.proofs.SliceTypes.{stripped}
use Rattle.slice_join.proofs.kind.whole_kind.Goals as goal

pub returns : goal.returns
unfolding whole_kind
returns c = stripped slice_start c.args.kind.now c.strip_prefix.result c.strip_prefix.ensures.cases
