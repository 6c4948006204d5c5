use Rattle.std.proofs.Common.{Bor, List, ℕ, subst, sym}
use Rattle.std.specs.Prelude.{map}
use Rattle.std.specs.List.{IsDistinct}
use Rattle.std.specs.Str.{bytes_eq}
use Rattle.sender_plan.proofs.Places.{distinct_shown}
use Rattle.sender_plan.proofs.bodies.Bodies.as_slice.Goals as goal

pub returns-clause-distinct : goal.returns-clause-distinct
returns-clause-distinct c =
    subst (λ (ks : List (Bor (List ℕ))). IsDistinct bytes_eq (map (λ k. k.now) ks)) (sym c.as_slice.ensures.keys)
    (distinct_shown c.args.self.now.distinct.keys c.as_slice.ensures.unique)
