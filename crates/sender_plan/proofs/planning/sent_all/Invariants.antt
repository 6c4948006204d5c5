-- The instances so far, and the objects of theirs.
use Rattle.std.proofs.Common.{◌≡◌, [], length, take}
use Rattle.std.specs.Prelude.{map}
use Rattle.std.specs.List.{AllByRecursion}
use Rattle.sender_plan.specs.Content.{same}
use Rattle.sender_plan.specs.Plan.{contents, listed_of, sent_of}
use Rattle.sender_plan.specs.Inner.Sets.{added_all}
use Rattle.sender_plan.specs.Inner.Planning.{Keeps, IsReady, HasPlaces, body_at}
use Rattle.sender_plan.proofs.planning.sent_all.Given as goal

abbrev pub invariant-loop-instance : goal.invariant-loop-instance
invariant-loop-instance l =
    let body = body_at l.names.keys l.places l.fn.planner.bodies.now in
    let all = contents body l.instances in
    record {
      params : l.planner.params ≡ l.fn.planner.params;
      bodies : l.planner.bodies.now ≡ l.fn.planner.bodies.now;
      ready : IsReady l.planner;
      keeps : Keeps (listed_of all body) (added_all same [] (contents body (take l.instance-index l.instances))) l.planner;
      sent : l.out.items ≡ map (sent_of all body) (take l.instance-index l.instances);
      known : AllByRecursion (HasPlaces (length l.planner.objects.items)) l.out.items;
    }
