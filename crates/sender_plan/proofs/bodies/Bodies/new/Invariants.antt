-- The places so far are those of the bodies so far.
use Rattle.std.proofs.Common.{◌≡◌, Some, take}
use Rattle.std.specs.Prelude.{map, slice_get}
use Rattle.sender_plan.proofs.bodies.Bodies.new.Given as goal

abbrev pub invariant-loop-body : goal.invariant-loop-body
invariant-loop-body l = map (slice_get (map (λ k. k.now) l.distinct.keys)) l.places.items ≡ map (λ body. Some body) (take l.body-index l.bodies)
