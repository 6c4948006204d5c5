use Rattle.oti_blocks.specs.Partition.{sources}
use Rattle.oti_blocks.proofs.Quotients.{sources_pos, sources_le}
use Rattle.oti_blocks.proofs.information.Oti.sources.Goals as goal

pub returns-clause-some : goal.returns-clause-some
unfolding sources
returns-clause-some c = rw (c.div_ceil.ensures, c.from.ensures, c.symbol.ensures.value, c.length.ensures.value) (sources_pos c.args.self.now c.length.ensures.sound)

pub returns-clause-fits : goal.returns-clause-fits
unfolding sources
returns-clause-fits c = rw (c.div_ceil.ensures, c.from.ensures, c.symbol.ensures.value, c.length.ensures.value) (sources_le c.args.self.now c.length.ensures.sound)
