use Rattle.std.proofs.Common.{ap}
use Rattle.object_store.specs.Inner.BlockRows.{rows_held}
use Rattle.object_store.proofs.Blocks.{rows_of_none}
use Rattle.object_store.proofs.block.Block.new.Goals as goal

pub returns : goal.returns
returns c = ap (λ m. record { k = c.args.k; n = c.args.n; size = c.args.size; rows = m })
    (rows_of_none c.args.size c.new.result.items (rows_held c.args.k c.args.size c.new.result.items c.new-2.result.items) c.new.ensures.items)
