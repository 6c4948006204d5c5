use Rattle.std.proofs.Common.{Some, sym, ap, ◌∙◌}
use Rattle.sender_plan.specs.Inner.Lines.{entry_of}
use Rattle.sender_plan.proofs.BadLines.{step_begin}
use Rattle.sender_plan.proofs.reading.begun_by.Goals as goal

pub returns-in-Instance-clause-sound : goal.returns-in-Instance-clause-sound
returns-in-Instance-clause-sound c = λ number lines.
    step_begin c.args.before number c.in-Instance.field-0 c.args.line.now lines (sym c.is_passed_over.ensures ∙ c.if-is_passed_over.false) c.in_ok-read_line.ensures.sound
    (c.in_ok-read_line.ensures.entry ∙ ap (λ said. Some (entry_of said)) c.in-Instance.is)
