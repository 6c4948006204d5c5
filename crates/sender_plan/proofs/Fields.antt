-- The fields of a line.
use Rattle.std.proofs.Common.{◌≡◌, ℕ, ◌<◌, Bool, true, false, not, ◌||◌, ◌==◌, cond, List, [], ◌∷◌, length, refl, sym, ap, ◌∙◌, arith, reverse}
use Rattle.std.specs.List.{onto_first, list_all, AllByRecursion}
use Rattle.std.specs.Str.{IsUtf8, is_utf8, bytes_eq}
use Rattle.std.proofs.lemmas.Bool.{and_parts, or_parts, false_from_ne_true}
use Rattle.std.proofs.lemmas.List.{reverse-reverse}
use Rattle.std.proofs.lemmas.List.Splits.{length-slice_split}
use Rattle.std.proofs.lemmas.Slice.Eq.{bytes_eq-Decides}
use Rattle.meta_text.specs.Text.{is_value_byte, is_clean, without_leading, trimmed, IsValue}
use Rattle.meta_text.proofs.Public.{all_reversed, clean_text}
use Rattle.sender_plan.specs.CatalogLine.{is_tab, fields_of, instance_word, file_word, is_instance, is_file, begins_with_space, is_bad_text}
use Rattle.sender_plan.specs.Inner.Lines.{is_no_tab, IsField}

-- ---- how many there are

pub some_field : (line : List ℕ) → 0 < length (fields_of line)
some_field line = omega (arith, length-slice_split is_tab line)

-- behind `instance` and a field there is no field more
pub no_instance : (word number : List ℕ) (fields : List (List ℕ)) → 0 < length fields → is_instance (word ∷ number ∷ fields) ≡ false
no_instance word number [] some = absurd (omega arith)
no_instance word number (field ∷ fields) some = refl

pub no_file : (word : List ℕ) (fields : List (List ℕ)) → bytes_eq word file_word ≡ false → is_file (word ∷ fields) ≡ false
no_file word [] other = refl
no_file word (name ∷ []) other = refl
no_file word (name ∷ location ∷ []) other = other
no_file word (name ∷ location ∷ kind ∷ []) other = other
no_file word (name ∷ location ∷ kind ∷ more ∷ fields) other = refl

pub long_file : (word name location kind : List ℕ) (fields : List (List ℕ)) → 0 < length fields → is_file (word ∷ name ∷ location ∷ kind ∷ fields) ≡ false
long_file word name location kind [] some = absurd (omega arith)
long_file word name location kind (field ∷ fields) some = refl

pub other_instance : (word : List ℕ) (fields : List (List ℕ)) → bytes_eq word instance_word ≡ false → is_instance (word ∷ fields) ≡ false
other_instance word [] other = refl
other_instance word (number ∷ []) other = other
other_instance word (number ∷ more ∷ fields) other = refl

-- texts that differ are told apart
pub unlike : (a b : List ℕ) → ¬ (a ≡ b) → bytes_eq a b ≡ false
unlike a b differ = false_from_ne_true (bytes_eq a b) (λ same. differ ((bytes_eq-Decides a b).0 same))

-- ---- a text that is UTF-8 is clean by its bytes

pub clean_bytes : (text : List ℕ) → is_clean text ≡ true → list_all is_value_byte text ≡ true
clean_bytes text clean = (and_parts (is_utf8 text) (list_all is_value_byte text) clean).1

-- ---- the fields of a clean line are clean, and have no tab

onto_field : (b : ℕ) (fields : List (List ℕ)) → is_value_byte b ≡ true → is_tab b ≡ false → AllByRecursion IsField fields → AllByRecursion IsField (onto_first b fields)
onto_field b [] value no_tab are = (record { clean = rw value refl; whole = rw no_tab refl }, tt)
onto_field b (field ∷ fields) value no_tab are = (record { clean = rw (value, are.0.clean) refl; whole = rw (no_tab, are.0.whole) refl }, are.1)

pub are_fields : (line : List ℕ) → list_all is_value_byte line ≡ true → AllByRecursion IsField (fields_of line)
are_fields [] clean = (record { clean = refl; whole = refl }, tt)
are_fields (b ∷ bs) clean =
    let parts = and_parts (is_value_byte b) (list_all is_value_byte bs) clean in
    by (is_tab b) refl parts.0 (are_fields bs parts.1)
  where
    by : (t : Bool) → is_tab b ≡ t → is_value_byte b ≡ true → AllByRecursion IsField (fields_of bs)
        → AllByRecursion IsField (cond t ([] ∷ fields_of bs) (onto_first b (fields_of bs)))
    by true tab value are = (record { clean = refl; whole = refl }, are)
    by false tab value are = onto_field b (fields_of bs) value tab are

-- ---- a field without a space at its ends is a value

stays : (text : List ℕ) → list_all is_no_tab text ≡ true → begins_with_space text ≡ false → without_leading text ≡ text
stays [] whole bare = refl
stays (b ∷ bs) whole bare = by (is_tab b) (and_parts (is_no_tab b) (list_all is_no_tab bs) whole).0
  where
    by : (t : Bool) → not t ≡ true → cond (b == 0x20 || t) (without_leading bs) (b ∷ bs) ≡ b ∷ bs
    by true e = absurd cc
    by false e = rw bare refl

pub field_is_value : (text : List ℕ) → IsUtf8 text → IsField text → is_bad_text text ≡ false → (0 < length text) × IsValue text
field_is_value [] utf8 field good = absurd cc
field_is_value (b ∷ bs) utf8 field good =
    let text = b ∷ bs in
    let bare = or_parts (begins_with_space text) (begins_with_space (reverse text)) good in
    let front : without_leading text ≡ text = stays text field.whole bare.0 in
    let back : without_leading (reverse text) ≡ reverse text = stays (reverse text) (all_reversed is_no_tab text field.whole) bare.1 in
    let ends : trimmed text ≡ text = ap (λ (ys : List ℕ). reverse (without_leading (reverse ys))) front ∙ ap reverse back ∙ reverse-reverse text in
    (omega arith, record { clean = sym (clean_text text utf8) ∙ field.clean; ends = ends })
