use Rattle.std.proofs.Common.{◌∷◌, refl, ap, ◌∙◌}
use Rattle.sender_plan.specs.CatalogLine.{fields_of, file_word, is_file}
use Rattle.sender_plan.proofs.Fields.{some_field, other_instance, long_file}
use Rattle.sender_plan.proofs.line.file_form.Goals as goal

pub returns-in-Some-cut_at_tab : goal.returns-in-Some-cut_at_tab
returns-in-Some-cut_at_tab c =
    let r = c.in-Some-cut_at_tab.field-0 in
    let cuts = c.in_ok-name.ensures.cut ∙ ap (λ fields. c.in_ok-name.name.now ∷ fields) (c.in-Some.ensures.cut
    ∙ ap (λ fields. c.in-Some.location.now ∷ fields) c.in-Some-cut_at_tab.ensures.cut) in (
      other_instance file_word (fields_of c.args.rest.now) refl,
      ap (λ fields. is_file (file_word ∷ fields)) cuts
          ∙ long_file file_word c.in_ok-name.name.now c.in-Some.location.now r.0.now (fields_of r.1.now) (some_field r.1.now),
    )
