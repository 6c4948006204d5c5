-- Numerals that `parse` refuses.
use Rattle.std.proofs.Common.{◌≡◌, ◌^◌, ◌<◌, ◌≤◌, ◌&&◌, ℕ, true, false, List, [], ◌∷◌, length, None, inl, inr, refl, arith, nat_le}
use Rattle.std.specs.Char.{is_ascii_digit}
use Rattle.std.specs.List.{list_all}
use Rattle.std.specs.Str.Parse.{AllDigits, IsNumeral, digits_value, without_leading_plus}
use Rattle.std.proofs.lemmas.Bool.{and_parts, leb-true, ne_eqb, lt-leb, cases_lt, and_right}
use Rattle.std.proofs.lemmas.Str.{digit_value_digit}
use Rattle.fcast_words.specs.Numbers.{is_numeral, number_in}

digit_range : (b : ℕ) → is_ascii_digit b ≡ true → (48 ≤ b) × (b ≤ 57)
digit_range b e =
    let parts = and_parts (nat_le 48 b) (nat_le b 57) e in
    (leb-true 48 b parts.0, leb-true b 57 parts.1)

all_digits : (text : List ℕ) → list_all is_ascii_digit text ≡ true → AllDigits 10 text
all_digits [] e = tt
all_digits (b ∷ text) e =
    let parts = and_parts (is_ascii_digit b) (list_all is_ascii_digit text) e in
    let range = digit_range b parts.0 in
    (omega (arith, range.1, digit_value_digit b range), all_digits text parts.1)

no_plus : (text : List ℕ) → list_all is_ascii_digit text ≡ true → without_leading_plus text ≡ text
no_plus [] e = refl
no_plus (b ∷ text) e =
    let parts = and_parts (is_ascii_digit b) (list_all is_ascii_digit text) e in
    let range = digit_range b parts.0 in
    rw (ne_eqb b 43 (λ same. omega (arith, same, range.0))) refl

-- a numeral that a type of 64 bits doesn't hold is above any number that it holds
pub too_large : (least greatest : ℕ) (text : List ℕ) → greatest < 2 ^ 64 → is_numeral text ≡ true
    → (IsNumeral 10 (without_leading_plus text) × (digits_value 10 (without_leading_plus text) < 2 ^ 64) → ⊥)
    → number_in least greatest text ≡ None
too_large least greatest text holds numeral refused =
    let first = and_parts (nat_le 1 (length text)) (nat_le (length text) 20 && list_all is_ascii_digit text) numeral in
    let rest = and_parts (nat_le (length text) 20) (list_all is_ascii_digit text) first.1 in
    let same : without_leading_plus text ≡ text = no_plus text rest.1 in
    let some : 0 < length text = omega (arith, leb-true 1 (length text) first.0) in
    let large : digits_value 10 text < 2 ^ 64 → ⊥ = λ small. refused (rw same ((some, all_digits text rest.1), small)) in
    let above : nat_le (digits_value 10 text) greatest ≡ false = elim (cases_lt (digits_value 10 text) (2 ^ 64)) [
      | inl small ↦ absurd (large small)
      | inr above ↦ lt-leb (digits_value 10 text) greatest (omega arith)
    ] in
    rw (and_right (nat_le least (digits_value 10 text)) _ above, numeral) refl
