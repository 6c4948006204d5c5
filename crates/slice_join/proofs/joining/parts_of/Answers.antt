use Rattle.std.proofs.Common.{◌≡◌, ◌==◌, true, false, cond, Some, nat_cmp, map, take, sym, ap, ◌∙◌, rules}
use Rattle.std.specs.BTreeMap.{get}
use Rattle.std.specs.Option.{is_some, option_copied, option_map}
use Rattle.slice_join.specs.declared.fault.JoinFault.TheVariants.{Twice}
use Rattle.slice_join.specs.Faults.{is_among, places_of, said}
use Rattle.slice_join.proofs.Walks.{held_is_among, once_at, part_more, twice_at}
use Rattle.slice_join.proofs.joining.parts_of.Goals as goal

pub returns-then-contains_key-clause-err : goal.returns-then-contains_key-clause-err
returns-then-contains_key-clause-err c =
    let all = c.args.all.now in
    let i = c.loop-told.told-index in
    let x = c.told-item.result in
    let own : c.place-place.result ≡ (said x).place = c.place-place.ensures in
    let held : is_some (get nat_cmp c.loop-told.parts (said x).place) ≡ true = search rules in
    let among : is_among (places_of (map said (take i all))) (said x).place ≡ true
    = sym (held_is_among (get nat_cmp c.loop-told.parts (said x).place) (map said (take i all)) (said x).place (c.loop-told.invariant.parts (said x).place)) ∙ held in
    ap (option_map Twice) (c.loop-told.invariant.once ∙ twice_at all i x c.loop-told-test.true c.told-item.is among ∙ ap Some (sym own))

pub loop-told-preserved : goal.loop-told-preserved
loop-told-preserved c =
    let all = c.args.all.now in
    let i = c.loop-told.told-index in
    let x = c.told-item.result in
    let less = c.loop-told-test.true in
    let old = c.loop-told.parts in
    let own : c.place-place.result ≡ (said x).place = c.place-place.ensures in
    let part : c.part.result.now ≡ (said x).part = c.part.ensures in
    let held : is_some (get nat_cmp old (said x).place) ≡ false = search rules in
    let among : is_among (places_of (map said (take i all))) (said x).place ≡ false
    = sym (held_is_among (get nat_cmp old (said x).place) (map said (take i all)) (said x).place (c.loop-told.invariant.parts (said x).place)) ∙ held in
    record {
      parts = λ p. c.in_ok-insert.ensures p
          ∙ ap (λ n. cond (n == p) (Some c.part.result.now) (option_copied (get nat_cmp old p))) own
          ∙ ap (λ xs. cond ((said x).place == p) (Some xs) (option_copied (get nat_cmp old p))) part
          ∙ ap (λ o. cond ((said x).place == p) (Some (said x).part) o) (c.loop-told.invariant.parts p)
          ∙ sym (part_more all i x less c.told-item.is among p);
      once = c.loop-told.invariant.once ∙ once_at all i x less c.told-item.is among;
    }
