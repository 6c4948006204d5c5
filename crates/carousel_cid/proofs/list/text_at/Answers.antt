use Rattle.std.proofs.Common.{sym, ap, ◌∙◌}
use Rattle.std.specs.Prelude.{position}
use Rattle.std.proofs.lemmas.List.{take_rest}
use Rattle.carousel_cid.specs.Listing.{is_comma}
use Rattle.carousel_cid.proofs.Texts.{first_text, last_text}
use Rattle.carousel_cid.proofs.list.text_at.Goals as goal

pub returns-in-Some-clause-first : goal.returns-in-Some-clause-first
returns-in-Some-clause-first c =
    let list = c.args.list.now in
    let rest = take_rest list c.args.at in
    rw rest (first_text list c.args.at c.in-Some.comma c.requires (ap (position is_comma) (sym rest) ∙ sym c.in-Some.ensures))

pub returns-in-None-clause-first : goal.returns-in-None-clause-first
returns-in-None-clause-first c =
    let list = c.args.list.now in
    let rest = take_rest list c.args.at in
    rw rest (last_text list c.args.at c.requires (ap (position is_comma) (sym rest) ∙ sym c.in-None.ensures))
