use Rattle.std.proofs.Common.{arith}
use Rattle.oti_blocks.proofs.Quotients.{sources_split, sources_le}
use Rattle.oti_blocks.proofs.information.Oti.large_count.Goals as goal

pub overflow_mul-result : goal.overflow_mul-result
overflow_mul-result c =
    let o = c.args.self.now in
    rw (c.small.ensures.value, c.from.ensures, c.blocks-2.ensures.value) (omega (arith, (sources_split o c.small.ensures.sound).0, sources_le o c.small.ensures.sound))

pub overflow_sub-result : goal.overflow_sub-result
overflow_sub-result c =
    let o = c.args.self.now in
    rw (c.small.ensures.value, c.from.ensures, c.blocks-2.ensures.value, c.sources.ensures.value) (omega (arith, (sources_split o c.small.ensures.sound).0))
