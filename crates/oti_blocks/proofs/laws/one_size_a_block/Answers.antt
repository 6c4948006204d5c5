use Rattle.oti_blocks.proofs.Quotients.{blocks_pos, blocks_le_sources}
use Rattle.oti_blocks.proofs.Sizes.{length-sizes}
use Rattle.oti_blocks.proofs.laws.one_size_a_block.Goals as goal

pub returns-clause-count : goal.returns-clause-count
returns-clause-count c = length-sizes

pub returns-clause-some : goal.returns-clause-some
returns-clause-some c = blocks_pos

pub returns-clause-within : goal.returns-clause-within
returns-clause-within c = blocks_le_sources
