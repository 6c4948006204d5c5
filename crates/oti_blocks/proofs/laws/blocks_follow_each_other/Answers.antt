use Rattle.oti_blocks.proofs.Sizes.{start-next}
use Rattle.oti_blocks.proofs.laws.blocks_follow_each_other.Goals as goal

pub returns : goal.returns
returns c = start-next
