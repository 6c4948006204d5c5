use Rattle.std.proofs.Common.{◌≡◌, true, false, Some, None, nat_cmp, sym, ap, subst, ◌∙◌, rules}
use Rattle.std.specs.BTreeMap.{get_by}
use Rattle.std.specs.Cmp.Lexicographic.{slice_cmp}
use Rattle.std.proofs.lemmas.Result.{on_ok_weaker}
use Rattle.slice_join.specs.Groups.{is_slice}
use Rattle.slice_join.specs.Inner.Places.{ArePlaces, place_from}
use Rattle.slice_join.proofs.Grouping.{plain_behind, new_behind, places_same}
use Rattle.slice_join.proofs.Trees.{within, takes, plain_places, new_places}
use Rattle.slice_join.proofs.groups.add.Goals as goal

pub returns-then-not-is_slice-clause-entries : goal.returns-then-not-is_slice-clause-entries
returns-then-not-is_slice-clause-entries c =
    let other : is_slice c.args.file.now ≡ false = search rules in
    on_ok_weaker c.begin.result (λ h. h ∙ sym (plain_behind c.args.entries.now.items c.args.file.now other)) c.begin.ensures

pub returns-then-not-is_slice-clause-places : goal.returns-then-not-is_slice-clause-places
returns-then-not-is_slice-clause-places c =
    let other : is_slice c.args.file.now ≡ false = search rules in
    on_ok_weaker c.begin.result (λ h. subst (ArePlaces c.args.places.now) (sym h) (plain_places c.args.places.now c.args.entries.now.items c.args.file.now other c.requires)) c.begin.ensures

pub push_at-requires : goal.push_at-requires
push_at-requires c =
    let g = c.args.file.now in
    let es = c.args.entries.now.items in
    let location = c.as_str-location.result.now in
    let slice : is_slice g ≡ true = search rules in
    let got : get_by (λ k. slice_cmp nat_cmp location k.now) c.args.places.now ≡ Some c.in-Some.place = search rules in
    let found : place_from 0 g.location es ≡ Some c.in-Some.place = ap (λ q. place_from 0 q es) (sym c.as_str-location.ensures) ∙ sym (c.requires location) ∙ got in
    let less = within c.in-Some.place es g slice found in
    search rules

pub returns-in-Some-clause-entries : goal.returns-in-Some-clause-entries
returns-in-Some-clause-entries c =
    let g = c.args.file.now in
    let es = c.args.entries.now.items in
    let location = c.as_str-location.result.now in
    let slice : is_slice g ≡ true = search rules in
    let got : get_by (λ k. slice_cmp nat_cmp location k.now) c.args.places.now ≡ Some c.in-Some.place = search rules in
    let found : place_from 0 g.location es ≡ Some c.in-Some.place = ap (λ q. place_from 0 q es) (sym c.as_str-location.ensures) ∙ sym (c.requires location) ∙ got in
    on_ok_weaker c.push_at.result (λ h. h ∙ sym (takes c.in-Some.place es g slice found)) c.push_at.ensures

pub returns-in-Some-clause-places : goal.returns-in-Some-clause-places
returns-in-Some-clause-places c =
    let g = c.args.file.now in
    let es = c.args.entries.now.items in
    let location = c.as_str-location.result.now in
    let slice : is_slice g ≡ true = search rules in
    let got : get_by (λ k. slice_cmp nat_cmp location k.now) c.args.places.now ≡ Some c.in-Some.place = search rules in
    let found : place_from 0 g.location es ≡ Some c.in-Some.place = ap (λ q. place_from 0 q es) (sym c.as_str-location.ensures) ∙ sym (c.requires location) ∙ got in
    on_ok_weaker c.push_at.result (λ h. subst (ArePlaces c.args.places.now) (takes c.in-Some.place es g slice found ∙ sym h) (λ q. c.requires q ∙ sym (places_same 0 q es g c.in-Some.place slice found))) c.push_at.ensures

pub returns-in_ok-insert-in-None-clause-entries : goal.returns-in_ok-insert-in-None-clause-entries
returns-in_ok-insert-in-None-clause-entries c =
    let g = c.args.file.now in
    let es = c.args.entries.now.items in
    let location = c.as_str-location.result.now in
    let slice : is_slice g ≡ true = search rules in
    let got : get_by (λ k. slice_cmp nat_cmp location k.now) c.args.places.now ≡ None = search rules in
    let none : place_from 0 g.location es ≡ None = ap (λ q. place_from 0 q es) (sym c.as_str-location.ensures) ∙ sym (c.requires location) ∙ got in
    on_ok_weaker c.begin-in-None.result (λ h. h ∙ sym (new_behind 0 es g slice none)) c.begin-in-None.ensures

pub returns-in_ok-insert-in-None-clause-places : goal.returns-in_ok-insert-in-None-clause-places
returns-in_ok-insert-in-None-clause-places c =
    let g = c.args.file.now in
    let es = c.args.entries.now.items in
    let location = c.as_str-location.result.now in
    let slice : is_slice g ≡ true = search rules in
    let got : get_by (λ k. slice_cmp nat_cmp location k.now) c.args.places.now ≡ None = search rules in
    let none : place_from 0 g.location es ≡ None = ap (λ q. place_from 0 q es) (sym c.as_str-location.ensures) ∙ sym (c.requires location) ∙ got in
    on_ok_weaker c.begin-in-None.result (λ h. subst (ArePlaces c.insert.new.self) (sym h)
    (new_places c.args.places.now c.insert.new.self es g location c.len.result (search rules) slice none c.as_str-location.ensures c.requires c.in_ok-insert-in-None.ensures.updates)) c.begin-in-None.ensures
