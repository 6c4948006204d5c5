-- The identifiers of the items so far, and their files among the contents.
use Rattle.std.proofs.Common.{◌≡◌, ◌≤◌, ◌<◌, ◌^◌, ◌++◌, ℕ, List, [], length, take}
use Rattle.std.specs.Prelude.{map}
use Rattle.std.specs.List.{AllByRecursion}
use Rattle.sender_plan.specs.CatalogInstance.{CatalogInstance}
use Rattle.sender_plan.specs.Content.{Content, same}
use Rattle.sender_plan.specs.Plan.{file_of}
use Rattle.sender_plan.specs.Inner.Sets.{added_all}
use Rattle.sender_plan.specs.Inner.Planning.{Keeps, IsReady, place_in, body_at}
use Rattle.sender_plan.proofs.Identifiers.{number_same}
use Rattle.sender_plan.proofs.planning.listed.Given as goal

abbrev pub invariant-loop-item : goal.invariant-loop-item
invariant-loop-item l =
    let body = body_at l.names.keys l.places l.fn.planner.bodies.now in
    let files = map (file_of body) (take l.item-index l.items) in
    record {
      params : l.planner.params ≡ l.fn.planner.params;
      bodies : l.planner.bodies.now ≡ l.fn.planner.bodies.now;
      ready : IsReady l.planner;
      few : length l.listed.keys ≤ l.item-index;
      small : AllByRecursion (λ toi. toi < 2 ^ 112) l.listed.keys;
      keeps : (lists : CatalogInstance → List ℕ) (kept : List Content) → Keeps lists kept l.fn.planner → Keeps lists (added_all same kept files) l.planner;
      listed : (lists : CatalogInstance → List ℕ) (kept : List Content) → Keeps lists kept l.fn.planner → (more : List Content)
          → l.listed.keys ≡ added_all number_same [] (map (place_in (added_all same kept files ++ more)) files);
    }
