use Rattle.std.proofs.Common.{arith}
use Rattle.wire_bytes.proofs.Public.{bytes_by_place}
use Rattle.oti_blocks.specs.Faults.{information_fault}
use Rattle.oti_blocks.specs.Wire.{stated}
use Rattle.oti_blocks.proofs.Spelling.{spelled}
use Rattle.oti_blocks.proofs.wire.read_fti.Goals as goal

pub returns-clause-found : goal.returns-clause-found
returns-clause-found c =
    rw c.read_values.ensures (spelled c.args.content.now c.if-content-ne10.false (bytes_by_place c.args.content.now (λ i. omega (arith, c.type_inv.content i)))
    (information_fault (stated c.args.content.now)))
