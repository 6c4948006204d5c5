use Rattle.oti_blocks.proofs.Sizes.{encoding_at_bounds}
use Rattle.oti_blocks.proofs.laws.encoding_is_bounded.Goals as goal

pub returns-clause-least : goal.returns-clause-least
returns-clause-least c o sound b lt = (encoding_at_bounds o sound b lt).0

pub returns-clause-most : goal.returns-clause-most
returns-clause-most c o sound b lt = (encoding_at_bounds o sound b lt).1
