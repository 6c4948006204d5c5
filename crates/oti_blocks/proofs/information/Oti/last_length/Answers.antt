use Rattle.std.proofs.Common.{arith}
use Rattle.oti_blocks.specs.Partition.{last_length}
use Rattle.oti_blocks.proofs.Bounds.{bounds}
use Rattle.oti_blocks.proofs.Quotients.{last_length_bounds}
use Rattle.oti_blocks.proofs.information.Oti.last_length.Goals as goal

pub overflow_sub-result : goal.overflow_sub-result
overflow_sub-result c =
    rw (c.sources.ensures.value, c.from.ensures, c.symbol.ensures.value, c.length.ensures.value) (last_length_bounds c.args.self.now c.sources.ensures.sound).0

pub overflow_cast-result : goal.overflow_cast-result
unfolding last_length
overflow_cast-result c =
    let sound = c.sources.ensures.sound in
    let most = last_length_bounds c.args.self.now sound in
    rw (c.sources.ensures.value, c.from.ensures, c.symbol.ensures.value, c.length.ensures.value) (omega (arith, most.2, (bounds c.args.self.now sound).symbol_fits))

pub returns-clause-some : goal.returns-clause-some
unfolding last_length
returns-clause-some c =
    rw (c.sources.ensures.value, c.from.ensures, c.symbol.ensures.value, c.length.ensures.value) (last_length_bounds c.args.self.now c.sources.ensures.sound).1

pub returns-clause-most : goal.returns-clause-most
unfolding last_length
returns-clause-most c =
    rw (c.sources.ensures.value, c.from.ensures, c.symbol.ensures.value, c.length.ensures.value) (last_length_bounds c.args.self.now c.sources.ensures.sound).2
