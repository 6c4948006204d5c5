use Rattle.std.proofs.Common.{◌≤◌, ◌∙◌, ℕ, List, length, sym, subst}
use Rattle.std.specs.Prelude.{All}
use Rattle.run_drill.proofs.DrillCatalog.{short_bodies}
use Rattle.run_drill.proofs.sending.sent.Goals as goal

pub session-requires-clause-short : goal.session-requires-clause-short
session-requires-clause-short c = subst (λ (bs : List (List ℕ)). All (λ (body : List ℕ). length body ≤ 200000) bs)
    (sym (c.as_slice.ensures.value ∙ c.in_ok-bodies.ensures.bodies)) (short_bodies 12 c.args.generator.now.state)
