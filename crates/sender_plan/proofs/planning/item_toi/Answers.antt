use Rattle.std.proofs.Common.{◌≡◌, ℕ, List, Bor, Some, ap, subst, ◌∙◌}
use Rattle.std.specs.Prelude.{map, slice_get}
use Rattle.std.specs.List.{position_or_len}
use Rattle.std.specs.Str.{bytes_eq}
use Rattle.sender_plan.specs.CatalogInstance.{CatalogItem}
use Rattle.sender_plan.specs.Content.{Content, same}
use Rattle.sender_plan.specs.Inner.Sets.{added}
use Rattle.sender_plan.specs.Inner.Planning.{Keeps, place_in}
use Rattle.sender_plan.proofs.Places.{file_keyed}
use Rattle.sender_plan.proofs.planning.item_toi.Goals as goal

pub returns-clause-keeps : goal.returns-clause-keeps
returns-clause-keeps c =
    let names = c.args.names.now.keys in
    let places = c.args.places.now in
    let bodies = c.args.planner.now.bodies.now in
    let item = c.args.item.now in
    let place = c.place_of-body.result in
    let named = c.as_str.ensures ∙ ap (λ (x : CatalogItem). x.name) c.item.view_is in
    let stands : slice_get places (position_or_len (bytes_eq item.name) (map (λ (k : Bor (List ℕ)). k.now) names)) ≡ Some place =
    subst (λ n. slice_get places (position_or_len (bytes_eq n) (map (λ (k : Bor (List ℕ)). k.now) names)) ≡ Some place) named c.place_of-body.ensures in
    let keyed = file_keyed names places bodies item c.key_of.result place c.key_of.ensures.location c.key_of.ensures.kind c.key_of.ensures.body stands in
    λ lists kept keeps. subst (λ (file : Content). Keeps lists (added same kept file) c.file.new.self) keyed (c.in_ok-file.ensures.ok lists kept keeps)

pub returns-clause-toi : goal.returns-clause-toi
returns-clause-toi c =
    let names = c.args.names.now.keys in
    let places = c.args.places.now in
    let bodies = c.args.planner.now.bodies.now in
    let item = c.args.item.now in
    let place = c.place_of-body.result in
    let named = c.as_str.ensures ∙ ap (λ (x : CatalogItem). x.name) c.item.view_is in
    let stands : slice_get places (position_or_len (bytes_eq item.name) (map (λ (k : Bor (List ℕ)). k.now) names)) ≡ Some place =
    subst (λ n. slice_get places (position_or_len (bytes_eq n) (map (λ (k : Bor (List ℕ)). k.now) names)) ≡ Some place) named c.place_of-body.ensures in
    let keyed = file_keyed names places bodies item c.key_of.result place c.key_of.ensures.location c.key_of.ensures.kind c.key_of.ensures.body stands in
    λ lists kept keeps. subst (λ (file : Content). c.in_ok-file.field-0 ≡ place_in (added same kept file) file) keyed (c.in_ok-file.ensures.toi lists kept keeps)
