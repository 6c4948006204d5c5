use Rattle.std.proofs.Common.{rules, ◌≡◌, ◌+◌, [], ◌∷◌, length, sym, ap, subst, ◌∙◌, arith}
use Rattle.std.specs.Prelude.{IfSome}
use Rattle.carousel_cid.specs.Repeats.{first_places}
use Rattle.carousel_cid.specs.IdentifierList.{identifiers_of}
use Rattle.carousel_cid.specs.Listing.{bad_place, count_in, identifiers_in}
use Rattle.carousel_cid.specs.Inner.Walks.{texts_from, added_all}
use Rattle.carousel_cid.proofs.Texts.{texts_none, texts_all, from_past, bad_at, count_on, kept_walk_on, walked}
use Rattle.carousel_cid.proofs.Kept.{kept_first}
use Rattle.carousel_cid.proofs.Causes.{list_bad, list_long, list_sound}
use Rattle.carousel_cid.proofs.list.read_list.Goals as goal

-- ---- a list of nothing

pub returns-then-is_empty-clause-sound : goal.returns-then-is_empty-clause-sound
returns-then-is_empty-clause-sound c =
    let body = c.args.body.now in
    let none = texts_none body c.without_line_end-list.result.now c.without_line_end-list.ensures (search rules) in
    list_sound body (ap (bad_place 0) none) (omega (arith, ap count_in none))

pub returns-then-is_empty-clause-listed : goal.returns-then-is_empty-clause-listed
returns-then-is_empty-clause-listed c =
    let none = texts_none c.args.body.now c.without_line_end-list.result.now c.without_line_end-list.ensures (search rules) in
    c.new-then-is_empty.ensures ∙ ap identifiers_of c.new.ensures.items ∙ sym (ap (λ ts. first_places (identifiers_in ts)) none)

-- ---- the walk

pub returns-in_default-clause-fault : goal.returns-in_default-clause-fault
returns-in_default-clause-fault c =
    let body = c.args.body.now in
    let list = c.without_line_end-list.result.now in
    let at = c.loop-at.at in
    let all = texts_all body list c.without_line_end-list.ensures (search rules) in
    list_bad body at (ap (bad_place 0) all ∙ sym c.loop-at.invariant.bad
    ∙ bad_at at (texts_from at list) _ c.text_at-text.result.now c.text_at-text.ensures.first (sym c.in_default.ensures.entry))

pub loop-at-preserved : goal.loop-at-preserved
loop-at-preserved c =
    let list = c.without_line_end-list.result.now in
    let at = c.loop-at.at in
    let text = c.text_at-text.result.now in
    let next : at + length text + 1 ≡ at + (length text + 1) = omega arith in
    let first : texts_from at list ≡ text ∷ texts_from (at + (length text + 1)) list = c.text_at-text.ensures.first ∙ ap (λ k. text ∷ texts_from k list) next in
    let rest = texts_from (at + (length text + 1)) list in
    let size = count_on text c.in-Some.entry (texts_from at list) rest first c.in-Some.ensures.entry in
    record {
      bad = search rules;
      count = omega (arith, size, c.counted-count.ensures, c.loop-at.invariant.count);
      most = search rules;
      all = kept_walk_on c.loop-at.kept c.kept_with-kept.result text c.in-Some.entry (texts_from at list) rest
          (added_all [] (identifiers_in (texts_from 0 list))) first c.in-Some.ensures.entry c.kept_with-kept.ensures.all c.loop-at.invariant.all;
      runs = c.kept_with-kept.ensures.runs;
      seen = c.kept_with-kept.ensures.seen;
      place = omega (arith, c.text_at-text.ensures.within);
    }

-- ---- behind it

pub returns-then-count-gt-MOST_LISTED-clause-fault : goal.returns-then-count-gt-MOST_LISTED-clause-fault
returns-then-count-gt-MOST_LISTED-clause-fault c =
    let all = walked c.args.body.now c.without_line_end-list.result.now c.loop-at.at c.loop-at.count c.without_line_end-list.ensures (search rules)
    (omega arith) c.loop-at.invariant.bad c.loop-at.invariant.count in
    list_long c.args.body.now all.0 (omega (arith, all.1))

pub returns-in-None-clause-sound : goal.returns-in-None-clause-sound
returns-in-None-clause-sound c =
    let all = walked c.args.body.now c.without_line_end-list.result.now c.loop-at.at c.loop-at.count c.without_line_end-list.ensures (search rules)
    (omega arith) c.loop-at.invariant.bad c.loop-at.invariant.count in
    list_sound c.args.body.now all.0 (omega (arith, all.1))

pub returns-in-Some-kept-clause-sound : goal.returns-in-Some-kept-clause-sound
returns-in-Some-kept-clause-sound c =
    let all = walked c.args.body.now c.without_line_end-list.result.now c.loop-at.at c.loop-at.count c.without_line_end-list.ensures (search rules)
    (omega arith) c.loop-at.invariant.bad c.loop-at.invariant.count in
    list_sound c.args.body.now all.0 (omega (arith, all.1))

pub returns-in-Some-kept-clause-listed : goal.returns-in-Some-kept-clause-listed
returns-in-Some-kept-clause-listed c =
    let list = c.without_line_end-list.result.now in
    let at = c.loop-at.at in
    let kept = c.in-Some-kept.kept in
    let whole = subst (λ o. IfSome o (λ k. added_all (identifiers_of k.runs.items) (identifiers_in (texts_from at list)) ≡ added_all [] (identifiers_in (texts_from 0 list))))
    c.in-Some-kept.is c.loop-at.invariant.all in
    let all = texts_all c.args.body.now list c.without_line_end-list.ensures (search rules) in
    let past = from_past at list (omega arith) in
    c.new-in-Some-kept.ensures
    ∙ sym (ap (λ ts. added_all (identifiers_of kept.runs.items) (identifiers_in ts)) past) ∙ whole
    ∙ kept_first (identifiers_in (texts_from 0 list)) ∙ sym (ap (λ ts. first_places (identifiers_in ts)) all)
