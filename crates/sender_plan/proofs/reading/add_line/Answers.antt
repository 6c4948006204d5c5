use Rattle.std.proofs.Common.{◌≤◌, length, arith, Some, sym, ap, ◌∙◌}
use Rattle.sender_plan.specs.Inner.Lines.{item_of, entry_of}
use Rattle.sender_plan.proofs.BadLines.{begun}
use Rattle.sender_plan.proofs.Continued.{added_begin, added_item}
use Rattle.sender_plan.proofs.reading.add_line.Goals as goal

pub returns-in-Ok-Instance-clause-added : goal.returns-in-Ok-Instance-clause-added
returns-in-Ok-Instance-clause-added c =
    let passed = sym c.is_passed_over.ensures ∙ c.if-is_passed_over.false in
    added_begin c.args.instances.now.items c.begin.new.instances.items c.args.line.now c.in-Ok-Instance.number c.begin.result passed
    (c.in-Ok-Instance.ensures.entry ∙ ap (λ said. Some (entry_of said)) c.in-Ok-Instance.field-0-is) c.begin.ensures.ok

pub returns-in-Ok-Instance-clause-begun : goal.returns-in-Ok-Instance-clause-begun
returns-in-Ok-Instance-clause-begun c =
    let passed = sym c.is_passed_over.ensures ∙ c.if-is_passed_over.false in
    begun c.args.instances.now.items c.begin.new.instances.items c.args.line.now c.in-Ok-Instance.number c.begin.result passed (c.requires.sound passed)
    (c.in-Ok-Instance.ensures.entry ∙ ap (λ said. Some (entry_of said)) c.in-Ok-Instance.field-0-is) c.begin.ensures.ok

pub returns-in-Ok-File-clause-added : goal.returns-in-Ok-File-clause-added
returns-in-Ok-File-clause-added c =
    let follows = rw c.in-Ok-File.field-0-is at c.in-Ok-File.ensures.follows in
    let some : 1 ≤ length c.args.instances.now.items = omega (arith, follows.0) in
    let passed = sym c.is_passed_over.ensures ∙ c.if-is_passed_over.false in
    added_item c.args.instances.now.items c.add_file.new.instances.items c.args.line.now (item_of c.in-Ok-File.file) c.add_file.result passed
    (c.in-Ok-File.ensures.entry ∙ ap (λ said. Some (entry_of said)) c.in-Ok-File.field-0-is) some c.add_file.ensures.ok
