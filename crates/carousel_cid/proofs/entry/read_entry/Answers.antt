use Rattle.std.proofs.Common.{◌+◌, sym, ap, ◌∙◌}
use Rattle.std.proofs.lemmas.List.{take_rest}
use Rattle.carousel_cid.specs.Listing.{identifier_in, one_entry, range_entry}
use Rattle.carousel_cid.proofs.Entries.{entry_one, entry_range}
use Rattle.carousel_cid.proofs.entry.read_entry.Goals as goal

pub returns-in-None-clause-entry : goal.returns-in-None-clause-entry
returns-in-None-clause-entry c =
    c.one.ensures.entry ∙ ap one_entry c.identifier.ensures.number ∙ sym (entry_one c.args.text.now (sym c.in-None.ensures))

pub returns-in-Some-clause-entry : goal.returns-in-Some-clause-entry
returns-in-Some-clause-entry c =
    let first = c.identifier-in-Some.ensures.number in
    let last = c.identifier-in-Some-2.ensures.number ∙ ap identifier_in (take_rest c.args.text.now (c.in-Some.dash + 1)) in
    c.range.ensures.entry ∙ (λ i. range_entry (first i) (last i)) ∙ sym (entry_range c.args.text.now c.in-Some.dash (sym c.in-Some.ensures))
