use Rattle.oti_blocks.proofs.Sizes.{sum-sizes}
use Rattle.oti_blocks.proofs.laws.sizes_add_up.Goals as goal

pub returns : goal.returns
returns c = sum-sizes
