use Rattle.std.proofs.Common.{◌∷◌, refl, ap, ◌∙◌}
use Rattle.sender_plan.specs.CatalogLine.{fields_of, instance_word, is_instance}
use Rattle.sender_plan.proofs.Fields.{some_field, no_instance, no_file}
use Rattle.sender_plan.proofs.line.instance_form.Goals as goal

pub returns-in-Some : goal.returns-in-Some
returns-in-Some c =
    let r = c.in-Some.field-0 in (
      ap (λ fields. is_instance (instance_word ∷ fields)) c.in-Some.ensures.cut
          ∙ no_instance instance_word r.0.now (fields_of r.1.now) (some_field r.1.now),
      no_file instance_word (fields_of c.args.rest.now) refl,
    )
