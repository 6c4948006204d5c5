-- Names and clean texts are UTF-8.
use Rattle.std.proofs.Common.{◌≡◌, ℕ, zero, suc, ◌<◌, true, false, not, ◌&&◌, eqb, ltb, List, [], ◌∷◌, refl, sym, ap, arith, inl, inr}
use Rattle.std.specs.List.{list_all, list_any}
use Rattle.std.specs.Str.{IsUtf8, IsAscii, is_utf8}
use Rattle.std.proofs.lemmas.Bool.{and_parts, or_cases, ltb-true, eqb-true, false_from_ne_true}
use Rattle.std.proofs.lemmas.Str.{IsUtf8-from_is_utf8, is_utf8-from_IsUtf8, IsUtf8-from_ascii}
use Rattle.meta_text.specs.Text.{name_marks, is_name_byte, is_empty, is_name, is_value_byte, is_clean}

-- who is among small numbers is small
among_small : (limit b : ℕ) (marks : List ℕ) → list_all (λ m. ltb m limit) marks ≡ true → list_any (λ m. eqb m b) marks ≡ true → b < limit
among_small limit b [] small among = absurd cc
among_small limit b (m ∷ marks) small among =
    let s = and_parts (ltb m limit) (list_all (λ m. ltb m limit) marks) small in
    elim (or_cases (eqb m b) (list_any (λ m. eqb m b) marks) among) [
      | inl here ↦ omega (arith, ltb-true m limit s.0, eqb-true m b here)
      | inr later ↦ among_small limit b marks s.1 later
    ]

name_byte_ascii : (b : ℕ) → is_name_byte b ≡ true → b < 128
name_byte_ascii b is = grind (arith, among_small 128 b name_marks refl)

name_bytes_ascii : (text : List ℕ) → list_all is_name_byte text ≡ true → IsAscii text
name_bytes_ascii [] all i = omega arith
name_bytes_ascii (b ∷ text) all zero = name_byte_ascii b (and_parts (is_name_byte b) (list_all is_name_byte text) all).0
name_bytes_ascii (b ∷ text) all (suc i) = name_bytes_ascii text (and_parts (is_name_byte b) (list_all is_name_byte text) all).1 i

pub name_is_utf8 : (text : List ℕ) → is_name text ≡ true → IsUtf8 text
name_is_utf8 text is = IsUtf8-from_ascii text (name_bytes_ascii text (and_parts (not (is_empty text)) (list_all is_name_byte text) is).1)

pub clean_is_utf8 : (text : List ℕ) → is_clean text ≡ true → IsUtf8 text
clean_is_utf8 text is = IsUtf8-from_is_utf8 text (and_parts (is_utf8 text) (list_all is_value_byte text) is).0

-- what isn't UTF-8 is no name, and not clean
pub no_name : (text : List ℕ) → ¬ (IsUtf8 text) → is_name text ≡ false
no_name text none = false_from_ne_true (is_name text) (λ is. none (name_is_utf8 text is))

pub not_clean : (text : List ℕ) → ¬ (IsUtf8 text) → is_clean text ≡ false
not_clean text none = false_from_ne_true (is_clean text) (λ is. none (clean_is_utf8 text is))

-- of a text that is UTF-8 the bytes decide
pub clean_text : (text : List ℕ) → IsUtf8 text → list_all is_value_byte text ≡ is_clean text
clean_text text utf8 = ap (λ t. t && list_all is_value_byte text) (sym (is_utf8-from_IsUtf8 text utf8))
