use Rattle.std.proofs.Common.{refl, sym, length, ap, ◌∙◌, arith, rules}
use Rattle.edge_io.specs.Log.{items_of, torn_from}
use Rattle.edge_io.proofs.Items.{items_none}
use Rattle.edge_io.proofs.Reading.{answer_whole, items_of_none, torn_none, torn_cut}
use Rattle.edge_io.proofs.log_reader.step_on.Goals as goal

pub returns-in-Ok-End-clause-answer : goal.returns-in-Ok-End-clause-answer
returns-in-Ok-End-clause-answer g c = λ t fits.
    let found = rw c.in-Ok-End.field-0-is at (c.in-Ok-End.ensures.found t) in
    let place = c.args.place in
    let same = ap length (found.1 ∙ sym found.0) in (
      ap items_of found.0 ∙ items_of_none,
      ap (λ l. torn_from place l) found.0 ∙ torn_none place,
      ap items_of found.1 ∙ items_of_none,
      ap (λ l. torn_from place l) found.1 ∙ torn_none place,
      (c.in-Ok-End.ensures.told t, omega (arith, fits, same)),
    )

pub returns-in-Ok-Cut-clause-answer : goal.returns-in-Ok-Cut-clause-answer
returns-in-Ok-Cut-clause-answer g c = λ t fits.
    let found = rw c.in-Ok-Cut.field-0-is at (c.in-Ok-Cut.ensures.found t) in
    (items_none _ found.1, torn_cut c.args.place _ found.0 found.1, refl, refl, (c.in-Ok-Cut.ensures.told t, tt))

pub returns-in-Ok-Whole-clause-answer : goal.returns-in-Ok-Whole-clause-answer
returns-in-Ok-Whole-clause-answer g c = λ t fits.
    let found = rw c.in-Ok-Whole.field-0-is at (c.in-Ok-Whole.ensures.found t) in
    let short = rw c.in-Ok-Whole.field-0-is at c.in-Ok-Whole.ensures.short in
    let now = answer_whole c.args.place c.saturating_add-after.result c.in-Ok-Whole.size c.read_item.new.buffer _ _ found (omega (arith, short)) fits (search rules) in
    (now.items, now.torn, (c.in-Ok-Whole.ensures.told t, now.fits))
