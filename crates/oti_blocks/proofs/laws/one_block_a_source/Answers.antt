use Rattle.oti_blocks.proofs.Sizes.{found, alone}
use Rattle.oti_blocks.proofs.laws.one_block_a_source.Goals as goal

pub returns-clause-found : goal.returns-clause-found
returns-clause-found c = found

pub returns-clause-alone : goal.returns-clause-alone
returns-clause-alone c = alone
