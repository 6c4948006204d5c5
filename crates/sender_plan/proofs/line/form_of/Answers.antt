use Rattle.std.proofs.Common.{ap, ◌∙◌}
use Rattle.sender_plan.specs.CatalogLine.{fields_of, is_instance, is_file, instance_word, file_word}
use Rattle.sender_plan.proofs.Fields.{other_instance, no_file, unlike}
use Rattle.sender_plan.proofs.line.form_of.Goals as goal

pub returns-in_default : goal.returns-in_default
returns-in_default c =
    let word = c.in_ok-word.word.now in
    let rest = fields_of c.in_ok-word.rest.now in (
      ap is_instance c.in_ok-word.ensures.cut ∙ other_instance word rest (unlike word instance_word c.in_default.not-instance),
      ap is_file c.in_ok-word.ensures.cut ∙ no_file word rest (unlike word file_word c.in_default.not-file),
    )
