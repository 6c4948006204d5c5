use Rattle.oti_blocks.proofs.Sizes.{block_end}
use Rattle.oti_blocks.proofs.laws.blocks_end_within.Goals as goal

pub returns : goal.returns
returns c = block_end
