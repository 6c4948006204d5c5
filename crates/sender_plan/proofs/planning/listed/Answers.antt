use Rattle.std.proofs.Common.{◌≡◌, ℕ, ◌+◌, ◌^◌, ◌<◌, ◌++◌, ◌∷◌, [], List, length, take, true, sym, ap, subst, ◌∙◌, arith}
use Rattle.std.specs.Prelude.{map}
use Rattle.std.specs.List.{AllByRecursion}
use Rattle.std.proofs.lemmas.List.{take_more, take_all, map-append}
use Rattle.carousel_cid.specs.Repeats.{first_places, are_different}
use Rattle.sender_plan.specs.CatalogInstance.{CatalogItem, CatalogInstance}
use Rattle.sender_plan.specs.Content.{Content, same}
use Rattle.sender_plan.specs.Plan.{file_of}
use Rattle.sender_plan.specs.Inner.Sets.{added, added_all}
use Rattle.sender_plan.specs.Inner.Planning.{Keeps, place_in, body_at}
use Rattle.sender_plan.proofs.Sets.{added_all-append}
use Rattle.sender_plan.proofs.Identifiers.{number_same, different_keys, added_all-first_places, if_ok_made, on_ok_given, added_each, added_length, listed_more}
use Rattle.sender_plan.proofs.planning.listed.Goals as goal

pub loop-item-preserved : goal.loop-item-preserved
loop-item-preserved c =
    let i = c.loop-item.item-index in
    let items = c.args.items.now in
    let names = c.args.names.now.keys in
    let places = c.args.places.now in
    let planner = c.loop-item.planner in
    let new = c.item_toi.new.planner in
    let item = c.item-item.result in
    let toi = c.in_ok-item_toi.field-0 in
    let keys = c.loop-item.listed.keys in
    let before = c.loop-item.invariant in
    let told = c.in_ok-item_toi.ensures in
    let body = body_at names places c.args.planner.now.bodies.now in
    let files = map (file_of body) (take i items) in
    let file = file_of body item in
    let front : map (file_of body) (take (i + 1) items) ≡ files ++ file ∷ [] =
    ap (map (file_of body)) (take_more items i item c.loop-item-test.true ∙ ap (λ x. take i items ++ x ∷ []) (sym c.item-item.is))
    ∙ map-append (file_of body) (take i items) (item ∷ []) in
    let same_body : body_at names places planner.bodies.now ≡ body = ap (body_at names places) before.bodies in
    record {
      params = told.same.0 ∙ before.params;
      bodies = told.same.1 ∙ before.bodies;
      ready = told.ready;
      few = omega (arith, before.few, added_length number_same keys toi, ap length c.in_ok-insert.ensures.keys);
      small = subst (AllByRecursion (λ t. t < 2 ^ 112)) (sym c.in_ok-insert.ensures.keys)
          (added_each (λ t. t < 2 ^ 112) number_same keys toi before.small (omega (arith, told.small)));
      keeps = λ lists kept keeps.
          subst (λ (fs : List Content). Keeps lists (added_all same kept fs) new) (sym front)
          (subst (λ (ks : List Content). Keeps lists ks new) (sym (added_all-append same kept files (file ∷ [])))
          (subst (λ (b : List ℕ → List ℕ). Keeps lists (added same (added_all same kept files) (file_of b item)) new) same_body
          (told.keeps lists (added_all same kept files) (before.keeps lists kept keeps))));
      listed = λ lists kept keeps more.
          let is = subst (λ (b : List ℕ → List ℕ). toi ≡ place_in (added same (added_all same kept files) (file_of b item)) (file_of b item)) same_body
          (told.toi lists (added_all same kept files) (before.keeps lists kept keeps)) in
          subst (λ (fs : List Content). c.insert.new.self.keys ≡ added_all number_same [] (map (place_in (added_all same kept fs ++ more)) fs)) (sym front)
          (listed_more kept files file toi keys c.insert.new.self.keys (before.listed lists kept keeps) is c.in_ok-insert.ensures.keys more);
    }

pub returns-clause-different : goal.returns-clause-different
returns-clause-different c =
    if_ok_made (λ v. v.items) (λ ts. are_different ts ≡ true) c.from_slice.result c.as_slice.result.now c.from_slice.ensures.items
    (rw c.as_slice.ensures.keys (different_keys c.loop-item.listed.keys c.as_slice.ensures.unique))

pub returns-clause-keeps : goal.returns-clause-keeps
returns-clause-keeps c =
    let body = body_at c.args.names.now.keys c.args.places.now c.args.planner.now.bodies.now in
    on_ok_given c.from_slice.result (λ lists kept keeps.
    subst (λ (is : List CatalogItem). Keeps lists (added_all same kept (map (file_of body) is)) c.loop-item.planner)
    (take_all c.loop-item.item-index c.args.items.now c.loop-item-test.false) (c.loop-item.invariant.keeps lists kept keeps))

pub returns-clause-listed : goal.returns-clause-listed
returns-clause-listed c =
    let body = body_at c.args.names.now.keys c.args.places.now c.args.planner.now.bodies.now in
    let items = c.args.items.now in
    let all = take_all c.loop-item.item-index items c.loop-item-test.false in
    if_ok_made (λ v. v.items) (λ ts. (lists : CatalogInstance → List ℕ) (kept : List Content) → Keeps lists kept c.args.planner.now → (more : List Content)
    → ts ≡ first_places (map (place_in (added_all same kept (map (file_of body) items) ++ more)) (map (file_of body) items)))
    c.from_slice.result c.as_slice.result.now c.from_slice.ensures.items (λ lists kept keeps more.
    subst (λ (is : List CatalogItem). c.as_slice.result.now
    ≡ first_places (map (place_in (added_all same kept (map (file_of body) is) ++ more)) (map (file_of body) is))) all
    (c.as_slice.ensures.keys ∙ c.loop-item.invariant.listed lists kept keeps more
    ∙ added_all-first_places (map (place_in (added_all same kept (map (file_of body) (take c.loop-item.item-index items)) ++ more))
    (map (file_of body) (take c.loop-item.item-index items)))))
