use Rattle.std.proofs.Common.{◌+◌, ◌∷◌, Bor, List, ℕ, drop, sym, ap, ◌∙◌, ◌≡◌}
use Rattle.std.specs.Prelude.{map}
use Rattle.std.specs.Str.{bytes_eq}
use Rattle.std.proofs.lemmas.List.{drop_more}
use Rattle.sender_plan.specs.CatalogInstance.{CatalogItem}
use Rattle.sender_plan.specs.Names.{item_names}
use Rattle.sender_plan.specs.Inner.Sets.{added, added_all}
use Rattle.sender_plan.proofs.Sets.{map-added}
use Rattle.sender_plan.proofs.names.add_names.Goals as goal

pub loop-item-preserved : goal.loop-item-preserved
loop-item-preserved c =
    let i = c.loop-item.item-index in
    let items = c.args.items.now in
    let keys = c.loop-item.set.keys in
    let item = c.item-item.result in
    let front : drop i items ≡ item ∷ drop (i + 1) items = drop_more items i item c.loop-item-test.true ∙ ap (λ x. x ∷ drop (i + 1) items) (sym c.item-item.is) in
    let more : map (λ (k : Bor (List ℕ)). k.now) c.insert.new.self.keys ≡ added bytes_eq (map (λ (k : Bor (List ℕ)). k.now) keys) item.name =
    ap (map (λ (k : Bor (List ℕ)). k.now)) c.in_ok-insert.ensures.keys ∙ map-added keys c.as_str.result
    ∙ ap (added bytes_eq (map (λ (k : Bor (List ℕ)). k.now) keys)) (c.as_str.ensures ∙ ap (λ (x : CatalogItem). x.name) c.item.view_is) in
    ap (λ ks. added_all bytes_eq ks (item_names (drop (i + 1) items))) more
    ∙ ap (λ (rest : List CatalogItem). added_all bytes_eq (map (λ (k : Bor (List ℕ)). k.now) keys) (item_names rest)) (sym front) ∙ c.loop-item.invariant
