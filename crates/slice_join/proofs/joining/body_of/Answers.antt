use Rattle.std.proofs.Common.{◌≡◌, ℕ, true, false, List, [], Some, None, get_or, map, nat_cmp, unwrap_or, sym, ap, subst, ◌∙◌, arith, rules}
use Rattle.std.specs.BTreeMap.{get}
use Rattle.std.specs.List.{flat_map}
use Rattle.std.specs.Option.{option_copied, option_map}
use Rattle.std.proofs.lemmas.Bool.Decides.{nat_tests}
use Rattle.slice_join.specs.declared.fault.JoinFault.TheVariants.{Header, Disagree, Twice, Missing, Total}
use Rattle.slice_join.specs.Groups.{files_of}
use Rattle.slice_join.specs.Faults.{all_said, found_in, join_fault, places_of, places_to, said}
use Rattle.slice_join.specs.Joins.{joined_body, part_at}
use Rattle.slice_join.specs.Inner.Stops.{StopsFor}
use Rattle.slice_join.proofs.FirstFaults.{header_in, disagree_in, twice_in, missing_in, differs, is_disagree, is_missing, is_total, is_none, stops_header, stops_twice}
use Rattle.slice_join.proofs.FirstFaults.{among_from, count_from, disagree_from, missing_from, parts_from, twice_from}
use Rattle.slice_join.proofs.Walks.{parts_same}
use Rattle.slice_join.proofs.joining.body_of.Goals as goal

pub returns-in_err-all-clause-err : goal.returns-in_err-all-clause-err
returns-in_err-all-clause-err c = search (rules, stops_header)

pub returns-in_err-agree-clause-err : goal.returns-in_err-agree-clause-err
returns-in_err-agree-clause-err c =
    let e = c.args.entry.now in
    let d = c.index-first.result.now in
    let files : c.deref.result.now ≡ files_of e = c.deref.ensures.value ∙ c.in_ok-all.ensures.all in
    let first : d ≡ e.first = c.index-first.ensures ∙ ap (λ xs. get_or xs 0 d) c.in_ok-all.ensures.all in
    let good : header_in e ≡ None = ap (option_map Header) c.in_ok-all.ensures.ok in
    let is : join_fault e ≡ Some c.in_err-agree.field-0.0 = is_disagree e c.in_err-agree.field-0.0 good (sym (disagree_from e d c.deref.result.now first files) ∙ c.in_err-agree.ensures.err) in
    search rules

pub returns-in_err-parts-clause-err : goal.returns-in_err-parts-clause-err
returns-in_err-parts-clause-err c =
    let e = c.args.entry.now in
    let d = c.index-first.result.now in
    let files : c.deref.result.now ≡ files_of e = c.deref.ensures.value ∙ c.in_ok-all.ensures.all in
    let first : d ≡ e.first = c.index-first.ensures ∙ ap (λ xs. get_or xs 0 d) c.in_ok-all.ensures.all in
    let good : header_in e ≡ None = ap (option_map Header) c.in_ok-all.ensures.ok in
    let alike : disagree_in e ≡ None = sym (disagree_from e d c.deref.result.now first files) ∙ ap (option_map Disagree) c.in_ok-agree.ensures.ok in
    let again : c.deref-2.result.now ≡ files_of e = c.deref-2.ensures.value ∙ c.in_ok-all.ensures.all in
    let stop = c.in_err-parts.field-0.0 in
    let is : StopsFor (join_fault e) stop = stops_twice e stop good alike (subst (λ o. StopsFor o stop) (twice_from e c.deref-2.result.now again) c.in_err-parts.ensures.err) in
    search rules

pub returns-in_err-complete-clause-err : goal.returns-in_err-complete-clause-err
returns-in_err-complete-clause-err c =
    let e = c.args.entry.now in
    let d = c.index-first.result.now in
    let files : c.deref.result.now ≡ files_of e = c.deref.ensures.value ∙ c.in_ok-all.ensures.all in
    let first : d ≡ e.first = c.index-first.ensures ∙ ap (λ xs. get_or xs 0 d) c.in_ok-all.ensures.all in
    let good : header_in e ≡ None = ap (option_map Header) c.in_ok-all.ensures.ok in
    let alike : disagree_in e ≡ None = sym (disagree_from e d c.deref.result.now first files) ∙ ap (option_map Disagree) c.in_ok-agree.ensures.ok in
    let again : c.deref-2.result.now ≡ files_of e = c.deref-2.ensures.value ∙ c.in_ok-all.ensures.all in
    let once : twice_in e ≡ None = sym (twice_from e c.deref-2.result.now again) ∙ ap (option_map Twice) c.in_ok-parts.ensures.ok in
    let parts = parts_from e c.deref-2.result.now c.in_ok-parts.parts again c.in_ok-parts.ensures.parts in
    let counted = count_from e d c.count.result c.count.ensures first in
    let fault = c.in_err-complete.field-0.0 in
    let is : join_fault e ≡ Some fault = is_missing e fault good alike once
    (sym (missing_from e c.count.result counted) ∙ c.in_err-complete.ensures.err (places_of (all_said e)) (among_from e c.in_ok-parts.parts parts)) in
    search rules

pub returns-then-found-total-clause-err : goal.returns-then-found-total-clause-err
returns-then-found-total-clause-err c =
    let e = c.args.entry.now in
    let d = c.index-first.result.now in
    let files : c.deref.result.now ≡ files_of e = c.deref.ensures.value ∙ c.in_ok-all.ensures.all in
    let first : d ≡ e.first = c.index-first.ensures ∙ ap (λ xs. get_or xs 0 d) c.in_ok-all.ensures.all in
    let good : header_in e ≡ None = ap (option_map Header) c.in_ok-all.ensures.ok in
    let alike : disagree_in e ≡ None = sym (disagree_from e d c.deref.result.now first files) ∙ ap (option_map Disagree) c.in_ok-agree.ensures.ok in
    let again : c.deref-2.result.now ≡ files_of e = c.deref-2.ensures.value ∙ c.in_ok-all.ensures.all in
    let once : twice_in e ≡ None = sym (twice_from e c.deref-2.result.now again) ∙ ap (option_map Twice) c.in_ok-parts.ensures.ok in
    let parts = parts_from e c.deref-2.result.now c.in_ok-parts.parts again c.in_ok-parts.ensures.parts in
    let counted = count_from e d c.count.result c.count.ensures first in
    let there : missing_in e ≡ None = sym (missing_from e c.count.result counted) ∙ ap (option_map Missing) (c.in_ok-complete.ensures.ok (places_of (all_said e)) (among_from e c.in_ok-parts.parts parts)) in
    let found : c.in_ok-found.found ≡ found_in (all_said e) = c.in_ok-found.ensures ∙ ap (λ fs. found_in (map said fs)) (c.deref-3.ensures.value ∙ c.in_ok-all.ensures.all) in
    let total : c.total.result ≡ (said e.first).total = c.total.ensures ∙ ap (λ f. (said f).total) first in
    let other : differs e ≡ true = grind (arith, nat_tests) in
    is_total e good alike once there other ∙ ap (λ n. Some (Total n)) (sym found)

pub returns-clause-ok : goal.returns-clause-ok
returns-clause-ok c =
    let e = c.args.entry.now in
    let d = c.index-first.result.now in
    let files : c.deref.result.now ≡ files_of e = c.deref.ensures.value ∙ c.in_ok-all.ensures.all in
    let first : d ≡ e.first = c.index-first.ensures ∙ ap (λ xs. get_or xs 0 d) c.in_ok-all.ensures.all in
    let good : header_in e ≡ None = ap (option_map Header) c.in_ok-all.ensures.ok in
    let alike : disagree_in e ≡ None = sym (disagree_from e d c.deref.result.now first files) ∙ ap (option_map Disagree) c.in_ok-agree.ensures.ok in
    let again : c.deref-2.result.now ≡ files_of e = c.deref-2.ensures.value ∙ c.in_ok-all.ensures.all in
    let once : twice_in e ≡ None = sym (twice_from e c.deref-2.result.now again) ∙ ap (option_map Twice) c.in_ok-parts.ensures.ok in
    let parts = parts_from e c.deref-2.result.now c.in_ok-parts.parts again c.in_ok-parts.ensures.parts in
    let counted = count_from e d c.count.result c.count.ensures first in
    let there : missing_in e ≡ None = sym (missing_from e c.count.result counted) ∙ ap (option_map Missing) (c.in_ok-complete.ensures.ok (places_of (all_said e)) (among_from e c.in_ok-parts.parts parts)) in
    let found : c.in_ok-found.found ≡ found_in (all_said e) = c.in_ok-found.ensures ∙ ap (λ fs. found_in (map said fs)) (c.deref-3.ensures.value ∙ c.in_ok-all.ensures.all) in
    let total : c.total.result ≡ (said e.first).total = c.total.ensures ∙ ap (λ f. (said f).total) first in
    let same : differs e ≡ false = grind (arith, nat_tests) in
    is_none e good alike once there same

pub returns-clause-body : goal.returns-clause-body
unfolding joined_body
returns-clause-body c =
    let e = c.args.entry.now in
    let d = c.index-first.result.now in
    let first : d ≡ e.first = c.index-first.ensures ∙ ap (λ xs. get_or xs 0 d) c.in_ok-all.ensures.all in
    let again : c.deref-2.result.now ≡ files_of e = c.deref-2.ensures.value ∙ c.in_ok-all.ensures.all in
    let parts = parts_from e c.deref-2.result.now c.in_ok-parts.parts again c.in_ok-parts.ensures.parts in
    let counted = count_from e d c.count-2.result c.count-2.ensures first in
    let held : ℕ → List ℕ = λ p. unwrap_or (option_copied (get nat_cmp c.in_ok-parts.parts p)) [] in
    let said_there : ℕ → List ℕ = λ p. unwrap_or (part_at (all_said e) p) [] in
    c.in_ok-joined_parts.ensures ∙ ap (λ n. flat_map held (places_to n)) counted
    ∙ parts_same held said_there (λ p. ap (λ o. unwrap_or o []) (parts p)) (places_to (said e.first).count)
