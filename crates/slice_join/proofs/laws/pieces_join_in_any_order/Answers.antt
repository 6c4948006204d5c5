use Rattle.slice_join.proofs.AnyOrder.{pieces_join}
use Rattle.slice_join.proofs.laws.pieces_join_in_any_order.Goals as goal

pub returns : goal.returns
returns c = pieces_join
