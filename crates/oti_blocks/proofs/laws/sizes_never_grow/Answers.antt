use Rattle.oti_blocks.proofs.Sizes.{size_falls, encoding_falls}
use Rattle.oti_blocks.proofs.laws.sizes_never_grow.Goals as goal

pub returns-clause-sources : goal.returns-clause-sources
returns-clause-sources c = size_falls

pub returns-clause-encoding : goal.returns-clause-encoding
returns-clause-encoding c = encoding_falls
