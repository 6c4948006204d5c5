use Rattle.std.proofs.Common.{◌≡◌, ◌∙◌, ℕ, List, subst}
use Rattle.std.specs.Prelude.{IfOk}
use Rattle.run_base.specs.declared.status.Status.{Status}
use Rattle.run_base.specs.Outcome.{Once}
use Rattle.run_base.specs.Answers.{LeavesText}
use Rattle.run_drill.proofs.DrillTaking.{drilled_status, drilled_text}
use Rattle.run_drill.proofs.command.drill.Goals as goal

pub returns-clause-status : goal.returns-clause-status
returns-clause-status g c = subst (λ (n : Status). IfOk c.tell.result (λ s. s ≡ n))
    (c.summary_status.ensures.status ∙ drilled_status c.args.start c.in_ok-summary.summary c.in_ok-summary.ensures.summary) c.tell.ensures.status

pub returns-clause-text : goal.returns-clause-text
returns-clause-text g c = λ told.
    subst (λ (lines : List ℕ). LeavesText Once c.tell.result lines (g.T.Text.written c.args.text.now) (g.T.Text.written c.tell.new.text))
    (c.as_str.ensures.value ∙ c.in_ok-lines.ensures ∙ drilled_text c.args.start c.in_ok-summary.summary c.in_ok-summary.ensures.summary)
    (c.tell.ensures.text told)
