use Rattle.std.proofs.Common.{◌≡◌, ◌+◌, ◌∷◌, Bor, List, ℕ, drop, sym, ap, ◌∙◌}
use Rattle.std.specs.Prelude.{map}
use Rattle.std.specs.Str.{bytes_eq}
use Rattle.std.proofs.lemmas.List.{drop_more, drop_all}
use Rattle.sender_plan.specs.CatalogInstance.{CatalogInstance}
use Rattle.sender_plan.specs.Names.{item_names}
use Rattle.sender_plan.specs.Inner.Sets.{added_all}
use Rattle.sender_plan.proofs.Sets.{added_all-append, added_all-distinct, bytes_transitive}
use Rattle.sender_plan.proofs.names.name_set.Goals as goal
use Rattle.sender_plan.proofs.names.name_set.Invariants.{names_in}

pub loop-instance-preserved : goal.loop-instance-preserved
loop-instance-preserved c =
    let i = c.loop-instance.instance-index in
    let instances = c.args.instances.now in
    let keys = map (λ (k : Bor (List ℕ)). k.now) c.loop-instance.set.keys in
    let instance = c.instance-item.result in
    let front : drop i instances ≡ instance ∷ drop (i + 1) instances = drop_more instances i instance c.loop-instance-test.true
    ∙ ap (λ x. x ∷ drop (i + 1) instances) (sym c.instance-item.is) in
    let more = c.in_ok-add_names.ensures ∙ ap (λ items. added_all bytes_eq keys (item_names items)) (c.as_slice.ensures.value
    ∙ ap (λ (x : CatalogInstance). x.items) c.instance.view_is) in
    ap (λ ks. added_all bytes_eq ks (names_in (drop (i + 1) instances))) more
    ∙ sym (added_all-append bytes_eq keys (item_names instance.items) (names_in (drop (i + 1) instances)))
    ∙ ap (λ (rest : List CatalogInstance). added_all bytes_eq keys (names_in rest)) (sym front) ∙ c.loop-instance.invariant

pub returns : goal.returns
returns c =
    let instances = c.args.instances.now in
    let keys = map (λ (k : Bor (List ℕ)). k.now) c.loop-instance.set.keys in
    ap (λ (rest : List CatalogInstance). added_all bytes_eq keys (names_in rest)) (sym (drop_all c.loop-instance.instance-index instances c.loop-instance-test.false))
    ∙ c.loop-instance.invariant ∙ added_all-distinct bytes_eq bytes_transitive (names_in instances)
