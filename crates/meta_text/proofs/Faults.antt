-- What is wrong with a line, by the place of its first colon.
use Rattle.std.proofs.Common.{◌≡◌, ℕ, ◌+◌, Bool, true, false, not, List, [], ◌∷◌, take, drop, Option, Some, None, refl, ap, ◌∙◌, arith}
use Rattle.std.specs.Prelude.{position}
use Rattle.wire_bytes.specs.FirstFault.{fault_when, first_fault}
use Rattle.std.specs.List.{list_any}
use Rattle.meta_text.specs.declared.fault.FieldFault.{FieldFault}
use Rattle.meta_text.specs.declared.fault.FieldFault.TheVariants.{NoColon, BadName, BadValue}
use Rattle.meta_text.specs.Text.{is_name, is_clean, trimmed}
use Rattle.meta_text.specs.Lines.{is_colon, name_in, value_in}
use Rattle.meta_text.specs.Reading.{fault_of}
use Rattle.meta_text.proofs.Places.{found_at, none_at, any_from_place, any_without_place}

-- the three tests of a line, as their answers choose the fault
abbrev pub chosen : ℕ → Bool → Bool → Bool → Option FieldFault
chosen n colon name value = first_fault (fault_when (not colon) (NoColon n) ∷ fault_when (not name) (BadName n) ∷ fault_when (not value) (BadValue n) ∷ [])

pub fault_by : (n : ℕ) (line : List ℕ) (colon name value : Bool) → list_any is_colon line ≡ colon
    → is_name (name_in line) ≡ name → is_clean (value_in line) ≡ value → fault_of (n, line) ≡ chosen n colon name value
fault_by n line colon name value a b c = ap (λ t. chosen n t (is_name (name_in line)) (is_clean (value_in line))) a
    ∙ ap (λ t. chosen n colon t (is_clean (value_in line))) b ∙ ap (chosen n colon name) c

pub name_at : (line : List ℕ) (at : ℕ) → position is_colon line ≡ Some at → name_in line ≡ take at line
name_at line at e = ap (λ n. take n line) (found_at is_colon line at e).0

pub value_at : (line : List ℕ) (at : ℕ) → position is_colon line ≡ Some at → value_in line ≡ trimmed (drop (at + 1) line)
value_at line at e = ap (λ n. trimmed (drop (n + 1) line)) (found_at is_colon line at e).0

colon_at : (line : List ℕ) (at : ℕ) → position is_colon line ≡ Some at → list_any is_colon line ≡ true
colon_at line at e = let f = found_at is_colon line at e in any_from_place is_colon line (omega (arith, f.0, f.1))

pub fault_no_colon : (n : ℕ) (line : List ℕ) → position is_colon line ≡ None → fault_of (n, line) ≡ Some (NoColon n)
fault_no_colon n line e = fault_by n line false (is_name (name_in line)) (is_clean (value_in line)) (any_without_place is_colon line (none_at is_colon line e)) refl refl

pub fault_bad_name : (n : ℕ) (line : List ℕ) (at : ℕ) → position is_colon line ≡ Some at → is_name (take at line) ≡ false → fault_of (n, line) ≡ Some (BadName n)
fault_bad_name n line at e name = fault_by n line true false (is_clean (value_in line)) (colon_at line at e) (ap is_name (name_at line at e) ∙ name) refl

pub fault_bad_value : (n : ℕ) (line : List ℕ) (at : ℕ) → position is_colon line ≡ Some at → is_name (take at line) ≡ true
    → is_clean (trimmed (drop (at + 1) line)) ≡ false → fault_of (n, line) ≡ Some (BadValue n)
fault_bad_value n line at e name value = fault_by n line true true false (colon_at line at e)
    (ap is_name (name_at line at e) ∙ name) (ap is_clean (value_at line at e) ∙ value)

pub fault_none : (n : ℕ) (line : List ℕ) (at : ℕ) → position is_colon line ≡ Some at
    → is_name (take at line) ≡ true → is_clean (trimmed (drop (at + 1) line)) ≡ true → fault_of (n, line) ≡ None
fault_none n line at e name value = fault_by n line true true true (colon_at line at e) (ap is_name (name_at line at e) ∙ name) (ap is_clean (value_at line at e) ∙ value)

-- a line with a colon, a name before it and a clean value
pub fault_none_by : (n : ℕ) (line : List ℕ) → list_any is_colon line ≡ true → is_name (name_in line) ≡ true → is_clean (value_in line) ≡ true → fault_of (n, line) ≡ None
fault_none_by n line colon name value = fault_by n line true true true colon name value
