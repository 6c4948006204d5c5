use Rattle.std.proofs.Common.{arith, subst}
use Rattle.wire_bytes.proofs.Public.{bytes_by_place}
use Rattle.lct_header.specs.Word.{FitsWord}
use Rattle.lct_header.proofs.Numbers.{fields_are_header}
use Rattle.lct_header.proofs.reading.header_of.Goals as goal

pub invariant_of-result : goal.invariant_of-result
invariant_of-result c =
    rw (c.tsi_number.ensures, c.toi_number.ensures)
    (fields_are_header c.args.word.now _ _ c.args.tsi.now c.args.toi.now _ (subst FitsWord c.word.view_is c.word.invariant) c.requires.tsi c.requires.toi
    (bytes_by_place c.args.tsi.now (λ i. omega (arith, c.type_inv.tsi i)))
    (bytes_by_place c.args.toi.now (λ i. omega (arith, c.type_inv.toi i))) c.word.invariant.codepoint)
