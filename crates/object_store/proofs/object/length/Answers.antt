use Rattle.std.proofs.Common.{arith}
use Rattle.oti_blocks.proofs.Public.{sources_bounds}
use Rattle.object_store.proofs.object.length.Goals as goal

pub returns-clause-within : goal.returns-clause-within
returns-clause-within c = omega (arith, c.length.ensures.value, (sources_bounds c.args.oti.now c.length.ensures.sound).0)
