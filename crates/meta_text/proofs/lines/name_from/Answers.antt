use Rattle.std.proofs.Common.{sym, ap, ◌∙◌}
use Rattle.std.proofs.lemmas.Bool.{iff_false, false_from_ne_true}
use Rattle.meta_text.specs.Text.{is_name}
use Rattle.meta_text.proofs.Clean.{no_name}
use Rattle.meta_text.proofs.lines.name_from.Goals as goal
use Rattle.meta_text.proofs.lines.name_from.Goals.{in_default-via-in-Ok+else-is_name, in_default-via-in_default}

pub returns-in_default-clause-none : goal.returns-in_default-clause-none
returns-in_default-clause-none c =
    elim c.in_default.branch [
      | in_default-via-in-Ok+else-is_name w ↦ ap is_name (sym w.in-Ok.ensures.cases.0)
          ∙ false_from_ne_true (is_name w.in-Ok.name.now) (iff_false w.is_name.ensures w.if-is_name.false)
      | in_default-via-in_default w ↦ no_name c.args.bytes.now w.in_default.ensures.cases.0
    ]
