-- The first bad line, one line after another.
use Rattle.std.proofs.Common.{◌≡◌, ℕ, ◌+◌, Bool, true, false, not, ◌||◌, List, [], ◌∷◌, ◌++◌}
use Rattle.std.proofs.Common.{Option, Some, None, Result, Ok, Err, length, length-append, refl, sym, ap, ◌∙◌, arith}
use Rattle.std.specs.Prelude.{OnOk}
use Rattle.std.specs.List.{flat_map}
use Rattle.meta_text.specs.Lines.{lines_of}
use Rattle.wire_bytes.specs.FirstFault.{fault_when, unless_fault}
use Rattle.wire_bytes.proofs.Public.{none_hold}
use Rattle.sender_plan.specs.CatalogInstance.{CatalogInstance}
use Rattle.sender_plan.specs.CatalogLine.{Begin, fields_of, is_instance, is_file, causes_of, cause_of, entry_in}
use Rattle.sender_plan.specs.declared.fault.BadLine.{BadLine}
use Rattle.sender_plan.specs.Catalog.{is_passed_over, bad_line, said, instances_of, reading}

pub has_form : (before : ℕ) (line : List ℕ) → cause_of before line ≡ None → (is_instance (fields_of line) || is_file (fields_of line)) ≡ true
unfolding cause_of
has_form before line sound =
    let later = (none_hold _ (causes_of before (fields_of line)) sound).1 in
    by (is_instance (fields_of line) || is_file (fields_of line)) (none_hold _ _ later).0
  where
    by : (t : Bool) → fault_when {F = ℕ} (not t) 2 ≡ None → t ≡ true
    by true e = refl
    by false e = absurd cc

instance_by_fields : (fields : List (List ℕ)) (number : ℕ) → entry_in fields ≡ Some (Begin number) → (is_instance fields || is_file fields) ≡ true
    → is_instance fields ≡ true
instance_by_fields [] number says form = absurd cc
instance_by_fields (word ∷ []) number says form = absurd cc
instance_by_fields (word ∷ text ∷ []) number says form = by (is_instance (word ∷ text ∷ [])) form
  where
    by : (t : Bool) → (t || false) ≡ true → t ≡ true
    by true e = refl
    by false e = absurd cc
instance_by_fields (word ∷ name ∷ location ∷ []) number says form = absurd cc
instance_by_fields (word ∷ name ∷ location ∷ kind ∷ []) number says form = absurd cc
instance_by_fields (word ∷ name ∷ location ∷ kind ∷ more ∷ fields) number says form = absurd cc

-- behind an `instance` line there is one instance more
pub step_begin : (before number n : ℕ) (line : List ℕ) (lines : List (List ℕ)) → is_passed_over line ≡ false → cause_of before line ≡ None
    → entry_in (fields_of line) ≡ Some (Begin n) → bad_line number before (line ∷ lines) ≡ bad_line (number + 1) (before + 1) lines
step_begin before number n line lines passed sound says =
    let is = instance_by_fields (fields_of line) n says (has_form before line sound) in
    rw (passed, sound, is) refl

pub begun : {V : Type 0} (old new : List CatalogInstance) (line : List ℕ) (n : ℕ) (r : Result (Unit {0}) V) → is_passed_over line ≡ false
    → cause_of (length old) line ≡ None → entry_in (fields_of line) ≡ Some (Begin n) → OnOk r (new ≡ old ++ record { number = n; items = [] } ∷ [])
    → OnOk r ((number : ℕ) (lines : List (List ℕ)) → bad_line number (length old) (line ∷ lines) ≡ bad_line (number + 1) (length new) lines)
begun old new line n (Ok v) passed sound says is = λ number lines.
    let more : length old + 1 ≡ length new = omega (arith, ap length is, length-append old (record { number = n; items = [] } ∷ [])) in
    step_begin (length old) number n line lines passed sound says ∙ ap (λ k. bad_line (number + 1) k lines) more
begun old new line n (Err e) passed sound says is = tt

-- ---- the whole text

pub reading_bad : (text : List ℕ) (bad : Option BadLine) (found : BadLine) → bad ≡ bad_line 1 0 (lines_of text) → bad ≡ Some found → reading text ≡ Err found
unfolding reading
reading_bad text bad found is some = ap (λ b. unless_fault b (instances_of (flat_map said (lines_of text)))) (sym is ∙ some)

pub reading_sound : (text : List ℕ) (bad : Option BadLine) → bad ≡ bad_line 1 0 (lines_of text) → bad ≡ None
    → reading text ≡ Ok (instances_of (flat_map said (lines_of text)))
unfolding reading
reading_sound text bad is none = ap (λ b. unless_fault b (instances_of (flat_map said (lines_of text)))) (sym is ∙ none)
