use Rattle.std.proofs.Common.{arith}
use Rattle.oti_blocks.specs.Partition.{blocks}
use Rattle.oti_blocks.proofs.Bounds.{few_blocks}
use Rattle.oti_blocks.proofs.information.Oti.blocks.Goals as goal

pub overflow_cast-result : goal.overflow_cast-result
unfolding blocks
overflow_cast-result c =
    rw (c.div_ceil.ensures, c.sources.ensures.value, c.from.ensures, c.max_block.ensures.value) (omega (arith, few_blocks c.args.self.now c.sources.ensures.sound))

pub returns-clause-few : goal.returns-clause-few
unfolding blocks
returns-clause-few c =
    rw (c.div_ceil.ensures, c.sources.ensures.value, c.from.ensures, c.max_block.ensures.value) (few_blocks c.args.self.now c.sources.ensures.sound)
