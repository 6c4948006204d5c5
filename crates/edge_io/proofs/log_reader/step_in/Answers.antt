use Rattle.std.proofs.Common.{◌≡◌, ◌<◌, ◌+◌, ◌^◌, true, false, length, nat_eq, refl, sym, ◌∙◌, ap, arith, length-drop}
use Rattle.std.specs.List.{starts_with}
use Rattle.edge_io.specs.Log.{magic, items_of, torn_from}
use Rattle.edge_io.proofs.Texts.{length_magic, datagrams_with, torn_with, datagrams_without, torn_without}
use Rattle.edge_io.proofs.log_reader.step_in.Goals as goal

pub returns-in-Ok-true-clause-answer : goal.returns-in-Ok-true-clause-answer
returns-in-Ok-true-clause-answer g c = λ t.
    let text = g.B.Bytes.left c.args.source.now in
    let read = c.in-Ok-true.ensures in
    let yes : starts_with nat_eq text magic ≡ true = sym (read.magic t) ∙ c.in-Ok-true.field-0-test in
    let rest = read.rest t c.in-Ok-true.field-0-test in
    let size = ap length rest ∙ length-drop 8 text in
    let fits : 8 + length (g.B.Bytes.left c.read_magic.new.source) < 2 ^ 64 = omega (arith, read.fewer t, length_magic text yes, size) in
    rw (datagrams_with text yes ∙ ap items_of (sym rest), torn_with text yes ∙ ap (torn_from 8) (sym rest)) (c.step_on.ensures.answer (read.told t) fits)

pub returns-in-Ok-false-clause-answer : goal.returns-in-Ok-false-clause-answer
returns-in-Ok-false-clause-answer g c = λ t.
    let text = g.B.Bytes.left c.args.source.now in
    let no : starts_with nat_eq text magic ≡ false = sym (c.in-Ok-false.ensures.magic t) ∙ c.in-Ok-false.field-0-test in
    (datagrams_without text no, torn_without text no, refl, refl, (c.in-Ok-false.ensures.told t, tt))
