use Rattle.oti_blocks.proofs.Sizes.{size_bounds}
use Rattle.oti_blocks.proofs.laws.sizes_are_bounded.Goals as goal

pub returns-clause-some : goal.returns-clause-some
returns-clause-some c o sound b lt = (size_bounds o sound b lt).0

pub returns-clause-most : goal.returns-clause-most
returns-clause-most c o sound b lt = (size_bounds o sound b lt).1
