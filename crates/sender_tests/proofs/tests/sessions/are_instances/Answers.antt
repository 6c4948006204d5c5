-- One more instance.
use Rattle.std.proofs.Common.{◌≡◌, ℕ, ◌<◌, ◌≤◌, length, get_or, sym, ap, ◌∙◌, subst, arith, inl, inr}
use Rattle.std.proofs.lemmas.Bool.{cases_lt}
use Rattle.std.proofs.lemmas.List.{get_or_default}
use Rattle.sender_plan.specs.Session.{SentInstance, IsInstance}
use Rattle.sender_tests.proofs.tests.sessions.are_instances.Goals as goal

pub loop-i-preserved : goal.loop-i-preserved
loop-i-preserved c s few k d less = elim (cases_lt k c.loop-i.i) [
  | inl before ↦ c.loop-i.invariant s few k d before
  | inr here ↦
      let same : k ≡ c.loop-i.i = omega arith in
      let xs = c.args.instances.now in
      subst (IsInstance s)
      (c.index-instances-i.is ∙ get_or_default xs c.loop-i.i c.index-instances-i.result d c.loop-i-test.true ∙ ap (λ n. get_or xs n d) (sym same))
      (c.is_instance.ensures c.if-not-is_instance.false s few)
]

pub returns : goal.returns
returns c all s few k d less = c.loop-i.invariant s few k d (omega arith)
