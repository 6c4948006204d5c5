use Rattle.std.proofs.Common.{◌∷◌, [], sym, ap, subst, ◌∙◌}
use Rattle.std.specs.List.{AllByRecursion}
use Rattle.sender_plan.specs.CatalogLine.{fields_of, instance_word, file_word, is_instance, is_file}
use Rattle.sender_plan.specs.Inner.Lines.{texts_of, IsField}
use Rattle.sender_plan.proofs.Fields.{are_fields, clean_bytes}
use Rattle.sender_plan.proofs.Causes.{cause_unclean, sound_line, bad_line_is, cause_formless}
use Rattle.sender_plan.proofs.line.read_line.Goals as goal

pub returns-in_default-clause-cause : goal.returns-in_default-clause-cause
returns-in_default-clause-cause c = cause_unclean c.args.before c.args.line.now c.in_default.ensures.none

pub read_file-requires : goal.read_file-requires
read_file-requires c =
    let same = ap fields_of (sym c.in-Some.ensures.text) ∙ (rw c.in-Some-File.field-0-is at c.in-Some-File.ensures) in
    let are : AllByRecursion IsField (file_word ∷ texts_of c.in-Some-File.file) =
    subst (AllByRecursion IsField) same (are_fields c.args.line.now (clean_bytes c.args.line.now c.in-Some.ensures.clean)) in
    are.1

pub returns-in-Some-Instance-clause-sound : goal.returns-in-Some-Instance-clause-sound
returns-in-Some-Instance-clause-sound c =
    sound_line c.args.before c.args.line.now (instance_word ∷ c.in-Some-Instance.number.now ∷ []) c.read_instance.result c.in-Some.ensures.clean
    (ap fields_of (sym c.in-Some.ensures.text) ∙ (rw c.in-Some-Instance.field-0-is at c.in-Some-Instance.ensures)) c.read_instance.ensures.sound

pub returns-in-Some-Instance-clause-cause : goal.returns-in-Some-Instance-clause-cause
returns-in-Some-Instance-clause-cause c =
    bad_line_is c.args.before c.args.line.now (instance_word ∷ c.in-Some-Instance.number.now ∷ []) c.read_instance.result c.in-Some.ensures.clean
    (ap fields_of (sym c.in-Some.ensures.text) ∙ (rw c.in-Some-Instance.field-0-is at c.in-Some-Instance.ensures)) c.read_instance.ensures.cause

pub returns-in-Some-File-clause-sound : goal.returns-in-Some-File-clause-sound
returns-in-Some-File-clause-sound c =
    sound_line c.args.before c.args.line.now (file_word ∷ texts_of c.in-Some-File.file) c.read_file.result c.in-Some.ensures.clean
    (ap fields_of (sym c.in-Some.ensures.text) ∙ (rw c.in-Some-File.field-0-is at c.in-Some-File.ensures)) c.read_file.ensures.sound

pub returns-in-Some-File-clause-cause : goal.returns-in-Some-File-clause-cause
returns-in-Some-File-clause-cause c =
    bad_line_is c.args.before c.args.line.now (file_word ∷ texts_of c.in-Some-File.file) c.read_file.result c.in-Some.ensures.clean
    (ap fields_of (sym c.in-Some.ensures.text) ∙ (rw c.in-Some-File.field-0-is at c.in-Some-File.ensures)) c.read_file.ensures.cause

pub returns-in-None-clause-cause : goal.returns-in-None-clause-cause
returns-in-None-clause-cause c =
    let same = ap fields_of (sym c.in-Some.ensures.text) in
    let none = c.in-None.ensures in
    cause_formless c.args.before c.args.line.now c.in-Some.ensures.clean (ap is_instance same ∙ none.0) (ap is_file same ∙ none.1)
