-- A number's digits are a metadata value.
use Rattle.std.proofs.Common.{◌≡◌, ℕ, ◌<◌, ◌^◌, Bool, true, false, ◌&&◌, List, [], ◌∷◌, ◌∙◌, refl, ap, arith, reverse}
use Rattle.std.specs.Fmt.{decimal}
use Rattle.std.specs.List.{list_all}
use Rattle.std.specs.Char.{is_ascii_digit}
use Rattle.std.specs.Str.Parse.{AllDigits}
use Rattle.std.proofs.lemmas.Bool.Decides.{nat_tests}
use Rattle.std.proofs.lemmas.Fmt.{decimal_is_IsNumeral, IsAscii-decimal}
use Rattle.std.proofs.lemmas.List.{reverse-reverse}
use Rattle.std.proofs.lemmas.Str.{is_utf8-from_IsUtf8, IsUtf8-from_ascii}
use Rattle.meta_text.specs.Text.{IsValue, is_value_byte, is_blank, without_leading, without_trailing}
use Rattle.meta_text.proofs.Public.{all_reversed}
use Rattle.carousel_cid.proofs.Digits.{is_digit_of}

-- a digit may stand in a value
value_byte : (d : ℕ) → is_ascii_digit d ≡ true → is_value_byte d ≡ true
value_byte d h = grind (arith, nat_tests)

-- a digit is no blank
not_blank : (d : ℕ) → is_ascii_digit d ≡ true → is_blank d ≡ false
not_blank d h = grind (arith, nat_tests)

-- the digits of a number are digits in ASCII
digits_pass : (ds : List ℕ) → AllDigits 10 ds → list_all is_ascii_digit ds ≡ true
digits_pass [] h = refl
digits_pass (d ∷ ds) h = rw (is_digit_of d h.0) (digits_pass ds h.1)

-- what each digit passes, all of them pass
pass_alike : (p : ℕ → Bool) → ((d : ℕ) → is_ascii_digit d ≡ true → p d ≡ true) → (ds : List ℕ) → list_all is_ascii_digit ds ≡ true → list_all p ds ≡ true
pass_alike p h [] all = refl
pass_alike p h (d ∷ ds) all = elim (is_ascii_digit d) as (λ b. is_ascii_digit d ≡ b → (b && list_all is_ascii_digit ds) ≡ true → (p d && list_all p ds) ≡ true) [
  | true ↦ λ e rest. rw (h d e) (pass_alike p h ds rest)
  | false ↦ λ e rest. cc
] refl all

-- digits have no blank in front
no_blank_in_front : (ds : List ℕ) → list_all is_ascii_digit ds ≡ true → without_leading ds ≡ ds
no_blank_in_front [] all = refl
no_blank_in_front (d ∷ ds) all = elim (is_ascii_digit d) as (λ b. is_ascii_digit d ≡ b → (b && list_all is_ascii_digit ds) ≡ true → without_leading (d ∷ ds) ≡ d ∷ ds) [
  | true ↦ λ e rest. rw (not_blank d e) refl
  | false ↦ λ e rest. cc
] refl all

-- digits have no blank behind
no_blank_behind : (ds : List ℕ) → list_all is_ascii_digit ds ≡ true → without_trailing ds ≡ ds
no_blank_behind ds all = ap reverse (no_blank_in_front (reverse ds) (all_reversed is_ascii_digit ds all)) ∙ reverse-reverse ds

-- a number in decimal is a value
pub decimal_is_value : (n : ℕ) → n < 2 ^ 64 → IsValue (decimal n)
decimal_is_value n small =
    let digits = digits_pass (decimal n) (decimal_is_IsNumeral n small).0.1 in
    record {
      clean = rw (is_utf8-from_IsUtf8 (decimal n) (IsUtf8-from_ascii (decimal n) (IsAscii-decimal n small))) (pass_alike is_value_byte value_byte (decimal n) digits);
      ends = ap without_trailing (no_blank_in_front (decimal n) digits) ∙ no_blank_behind (decimal n) digits;
    }
