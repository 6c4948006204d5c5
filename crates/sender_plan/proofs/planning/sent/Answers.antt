use Rattle.std.proofs.Common.{◌≡◌, ◌+◌, ◌++◌, List, length, sym, ap, subst, ◌∙◌}
use Rattle.std.specs.Prelude.{map}
use Rattle.carousel_cid.specs.Repeats.{first_places}
use Rattle.sender_plan.specs.CatalogInstance.{CatalogItem, CatalogInstance}
use Rattle.sender_plan.specs.Content.{same}
use Rattle.sender_plan.specs.Plan.{file_of, files_of}
use Rattle.sender_plan.specs.Inner.Sets.{added_all}
use Rattle.sender_plan.specs.Inner.Planning.{Keeps, place_in, body_at}
use Rattle.sender_plan.proofs.Keeping.{length_kept}
use Rattle.sender_plan.proofs.planning.sent.Goals as goal

pub returns-clause-listed : goal.returns-clause-listed
returns-clause-listed c =
    let body = body_at c.args.names.now.keys c.args.places.now c.args.planner.now.bodies.now in
    let items = c.as_slice.ensures.value ∙ ap (λ (x : CatalogInstance). x.items) c.instance.view_is in
    λ lists kept keeps more.
    subst (λ (is : List CatalogItem). c.in_ok-listed.listed.items
    ≡ first_places (map (place_in (added_all same kept (map (file_of body) is) ++ more)) (map (file_of body) is)))
    items (c.in_ok-listed.ensures.listed lists kept keeps more)

pub returns-clause-toi : goal.returns-clause-toi
returns-clause-toi c =
    let body = body_at c.args.names.now.keys c.args.places.now c.args.planner.now.bodies.now in
    let items = c.as_slice.ensures.value ∙ ap (λ (x : CatalogInstance). x.items) c.instance.view_is in
    λ lists kept keeps.
    c.in_ok-descriptor_toi.ensures.toi
    ∙ ap (λ n. n + 1) (length_kept lists (added_all same kept (map (file_of body) c.as_slice.result.now))
    c.listed.new.planner (c.in_ok-listed.ensures.keeps lists kept keeps)
    ∙ ap (λ (is : List CatalogItem). length (added_all same kept (map (file_of body) is))) items)

pub returns-clause-keeps : goal.returns-clause-keeps
returns-clause-keeps c =
    let body = body_at c.args.names.now.keys c.args.places.now c.args.planner.now.bodies.now in
    let items = c.as_slice.ensures.value ∙ ap (λ (x : CatalogInstance). x.items) c.instance.view_is in
    λ lists kept keeps is.
    let kept_files = subst (λ (is : List CatalogItem). Keeps lists (added_all same kept (map (file_of body) is)) c.listed.new.planner) items
    (c.in_ok-listed.ensures.keeps lists kept keeps) in
    c.in_ok-descriptor_toi.ensures.ok lists (added_all same kept (files_of body c.args.instance.now)) c.args.instance.now kept_files
    (sym (ap (λ (x : CatalogInstance). x.number) c.instance.view_is)) (is ∙ sym c.as_slice-2.ensures.value)
