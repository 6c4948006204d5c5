use Rattle.std.proofs.Common.{sym, ap, ◌∙◌}
use Rattle.meta_text.specs.Text.{is_clean}
use Rattle.meta_text.proofs.Clean.{not_clean}
use Rattle.meta_text.proofs.lines.clean_text.Goals as goal
use Rattle.meta_text.proofs.lines.clean_text.Goals.{in_default-via-in-Ok+else-is_clean, in_default-via-in_default}

pub returns-in_default-clause-none : goal.returns-in_default-clause-none
returns-in_default-clause-none c =
    elim c.in_default.branch [
      | in_default-via-in-Ok+else-is_clean w ↦ ap is_clean (sym w.in-Ok.ensures.cases.0) ∙ sym w.is_clean.ensures ∙ w.if-is_clean.false
      | in_default-via-in_default w ↦ not_clean c.args.bytes.now w.in_default.ensures.cases.0
    ]
