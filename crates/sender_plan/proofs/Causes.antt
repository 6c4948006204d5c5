-- What is wrong with a line, by its fields; and the item that a good line says.
use Rattle.std.proofs.Common.{◌≡◌, ℕ, true, false, List, ◌∷◌, Option, Some, None, Result, Ok, Err, refl, ap, subst, ◌∙◌}
use Rattle.std.specs.Prelude.{IfOk, IfErr, option_to_list}
use Rattle.std.specs.Option.{ForSome}
use Rattle.std.specs.List.{list_any, AllByRecursion}
use Rattle.std.specs.Str.{IsUtf8}
use Rattle.std.proofs.lemmas.Bool.{or_parts}
use Rattle.wire_bytes.specs.FirstFault.{first_fault}
use Rattle.meta_text.specs.Text.{is_clean, IsValue}
use Rattle.sender_plan.specs.CatalogInstance.{CatalogItem, IsItem}
use Rattle.sender_plan.specs.CatalogLine.{fields_of, is_instance, is_file, is_bad_text, causes_of, cause_of}
use Rattle.sender_plan.specs.Inner.Lines.{IsField}
use Rattle.sender_plan.proofs.Fields.{field_is_value}

pub cause_unclean : (before : ℕ) (line : List ℕ) → is_clean line ≡ false → cause_of before line ≡ Some 1
unfolding cause_of
cause_unclean before line unclean = rw unclean refl

-- the causes of a clean line are those of its fields
pub cause_clean : (before : ℕ) (line : List ℕ) (fields : List (List ℕ)) (cause : Option ℕ) → is_clean line ≡ true → fields_of line ≡ fields
    → first_fault (causes_of before fields) ≡ cause → cause_of before line ≡ cause
unfolding cause_of
cause_clean before line fields cause clean same is = rw clean (ap (λ fs. first_fault (causes_of before fs)) same ∙ is)

pub sound_line : {V : Type 0} (before : ℕ) (line : List ℕ) (fields : List (List ℕ)) (r : Result V ℕ) → is_clean line ≡ true → fields_of line ≡ fields
    → IfOk r (λ v. first_fault (causes_of before fields) ≡ None) → IfOk r (λ v. cause_of before line ≡ None)
sound_line before line fields (Ok v) clean same is = cause_clean before line fields None clean same is
sound_line before line fields (Err cause) clean same is = tt

pub bad_line_is : {V : Type 0} (before : ℕ) (line : List ℕ) (fields : List (List ℕ)) (r : Result V ℕ) → is_clean line ≡ true → fields_of line ≡ fields
    → IfErr r (λ cause. first_fault (causes_of before fields) ≡ Some cause) → IfErr r (λ cause. cause_of before line ≡ Some cause)
bad_line_is before line fields (Ok v) clean same is = tt
bad_line_is before line fields (Err cause) clean same is = cause_clean before line fields (Some cause) clean same is

-- a line of neither form
pub cause_formless : (before : ℕ) (line : List ℕ) → is_clean line ≡ true → is_instance (fields_of line) ≡ false → is_file (fields_of line) ≡ false
    → cause_of before line ≡ Some 2
unfolding cause_of
cause_formless before line clean no_instance no_file = rw (clean, no_instance, no_file) refl

-- the texts of a good `file` line make an item
kind_is_value : (kind : Option (List ℕ)) → ForSome kind IsUtf8 → AllByRecursion IsField (option_to_list kind) → list_any is_bad_text (option_to_list kind) ≡ false
    → ForSome kind IsValue
kind_is_value None utf8 field good = λ x e. cc
kind_is_value (Some text) utf8 field good =
    let bare = (or_parts (is_bad_text text) false good).0 in
    let value = (field_is_value text (utf8 text refl) field.0 bare).1 in
    λ x e. subst IsValue (let same : text ≡ x = cc in same) value

pub item_is : (item : CatalogItem) → IsUtf8 item.location → ForSome item.kind IsUtf8
    → AllByRecursion IsField (item.name ∷ item.location ∷ option_to_list item.kind)
    → is_bad_text item.location ≡ false → list_any is_bad_text (option_to_list item.kind) ≡ false → IsItem item
item_is item location kind fields good_location good_kind =
    let value = field_is_value item.location location fields.1.0 good_location in
    record { somewhere = value.0; location = value.1; kind = kind_is_value item.kind kind fields.1.1 good_kind }
