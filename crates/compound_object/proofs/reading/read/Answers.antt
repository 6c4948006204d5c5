use Rattle.std.proofs.Common.{subst, arith}
use Rattle.wire_bytes.proofs.Public.{bytes_by_place}
use Rattle.compound_object.specs.Reading.{Gives}
use Rattle.compound_object.proofs.Layouts.{reading-spelled}
use Rattle.compound_object.proofs.Spelled.{is_spelled}
use Rattle.compound_object.proofs.reading.read.Goals as goal

pub returns-clause-spells : goal.returns-clause-spells
returns-clause-spells c = is_spelled c.args.bytes.now c.unpack.result (bytes_by_place c.args.bytes.now (λ i. omega (arith, c.type_inv.bytes i))) c.unpack.ensures.reading

pub returns-clause-only : goal.returns-clause-only
returns-clause-only c = λ descriptor fields body spells. subst (Gives c.unpack.result)
    (reading-spelled c.args.bytes.now descriptor fields body spells) c.unpack.ensures.reading
