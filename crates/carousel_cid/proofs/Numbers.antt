-- A number read digit by digit, under a bound at which its value stays.
use Rattle.std.proofs.Common.{◌≡◌, ℕ, ◌+◌, ◌-◌, ◌*◌, ◌<◌, Bool, true, false, ◌&&◌, ◌==◌, ltb, cond, List, [], ◌∷◌, Some, None}
use Rattle.std.proofs.Common.{refl, sym, ap, subst, ◌∙◌, arith, length, get_or, drop, drop-cons, add-one, min, inl, inr}
use Rattle.std.specs.Char.{is_ascii_digit}
use Rattle.std.specs.Str.{all_ascii_digits}
use Rattle.std.specs.Str.Parse.{IsNumeral, digits_value, digits_value_after}
use Rattle.std.proofs.lemmas.Bool.{cases_lt, ltb-true, ltb-false, lt-ltb, ne_eqb, eqb-true, eq-eqb, and_parts}
use Rattle.std.proofs.lemmas.Str.Parse.{IsNumeralModel, numerals_by_value, tells_all_ascii_digits}
use Rattle.carousel_cid.specs.Number.{IsNumber, number_below, writes_number, is_number}
use Rattle.carousel_cid.proofs.Digits.{digit_is, digits_grow}

-- the digits from place i on, one by one
split_at : (xs : List ℕ) (i : ℕ) → i < length xs → drop i xs ≡ get_or xs i 0 ∷ drop (i + 1) xs
split_at xs i less = rw (add-one, drop-cons xs i 0) refl

pub digits_on : (xs : List ℕ) (i : ℕ) → i < length xs → is_ascii_digit (get_or xs i 0) ≡ true → all_ascii_digits (drop (i + 1) xs) ≡ all_ascii_digits (drop i xs)
digits_on xs i less digit = rw (split_at xs i less, digit) refl

-- a value that stays at the bound
capped : (v b : ℕ) (ds : List ℕ) → min (digits_value_after 10 (min v b) ds) b ≡ min (digits_value_after 10 v ds) b
capped v b ds = elim (cases_lt v b) [
  | inl less ↦ let same : min v b ≡ v = omega arith in rw same refl
  | inr least ↦
      let same : min v b ≡ b = omega arith in
      rw same (omega (arith, digits_grow b ds, digits_grow v ds))
]

pub value_on : (v b : ℕ) (xs : List ℕ) (i d : ℕ) → i < length xs → is_ascii_digit (get_or xs i 0) ≡ true → d ≡ get_or xs i 0 - 48
    → min (digits_value_after 10 (min (v * 10 + d) b) (drop (i + 1) xs)) b ≡ min (digits_value_after 10 v (drop i xs)) b
value_on v b xs i d less digit is =
    capped (v * 10 + d) b (drop (i + 1) xs)
    ∙ ap (λ e. min (digits_value_after 10 (v * 10 + e) (drop (i + 1) xs)) b) (is ∙ sym (digit_is (get_or xs i 0) digit))
    ∙ ap (λ (ys : List ℕ). min (digits_value_after 10 v ys) b) (sym (split_at xs i less))

-- what is read below the bound after it, is or isn't the number
pub writes_some : (text : List ℕ) (n m : ℕ) → number_below (n + 1) text ≡ Some m → writes_number text n ≡ (m == n)
unfolding number_below writes_number
writes_some text n m read = by (is_number text) (ltb (digits_value 10 text) (n + 1)) read
  where
    by : (t u : Bool) → cond (t && u) (Some (digits_value 10 text)) None ≡ Some m → (t && (digits_value 10 text == n)) ≡ (m == n)
    by true true e = let same : digits_value 10 text ≡ m = cc in rw same refl
    by true false e = absurd (let other : None ≡ Some m = e in cc)
    by false u e = absurd (let other : None ≡ Some m = e in cc)

pub writes_none : (text : List ℕ) (n : ℕ) → number_below (n + 1) text ≡ None → writes_number text n ≡ false
unfolding number_below writes_number
writes_none text n read = by (is_number text) (ltb (digits_value 10 text) (n + 1)) refl read
  where
    by : (t u : Bool) → ltb (digits_value 10 text) (n + 1) ≡ u → cond (t && u) (Some (digits_value 10 text)) None ≡ None → (t && (digits_value 10 text == n)) ≡ false
    by true true less e = absurd (let other : Some (digits_value 10 text) ≡ None = e in cc)
    by true false less e = let least = ltb-false (digits_value 10 text) (n + 1) less in ne_eqb (digits_value 10 text) n (λ same. omega arith)
    by false u less e = refl

-- ---- what a number is, and what is read as one

numerals : IsNumeralModel (λ ds. all_ascii_digits ds ≡ true) (digits_value 10)
numerals = numerals_by_value (λ ds. all_ascii_digits ds ≡ true) tells_all_ascii_digits

is_number_from : (text : List ℕ) → is_number text ≡ true → IsNumeral 10 text
is_number_from [] is = cc
is_number_from (b ∷ bs) is = (omega arith, numerals.to (b ∷ bs) is)

is_number_to : (text : List ℕ) → IsNumeral 10 text → is_number text ≡ true
is_number_to [] is = absurd (omega (arith, is.0))
is_number_to (b ∷ bs) is = numerals.from (b ∷ bs) is.1

pub number_from : (b : ℕ) (text : List ℕ) (n : ℕ) → number_below b text ≡ Some n → IsNumber text n × (n < b)
unfolding number_below
number_from b text n read = by (is_number text) (ltb (digits_value 10 text) b) refl refl read
  where
    by : (t u : Bool) → is_number text ≡ t → ltb (digits_value 10 text) b ≡ u → cond (t && u) (Some (digits_value 10 text)) None ≡ Some n → IsNumber text n × (n < b)
    by true true is less e =
        let same : digits_value 10 text ≡ n = cc in
        (record { digits = is_number_from text is; value = same }, subst (λ k. k < b) same (ltb-true (digits_value 10 text) b less))
    by true false is less e = absurd (let other : None ≡ Some n = e in cc)
    by false u is less e = absurd (let other : None ≡ Some n = e in cc)

pub number_to : (b : ℕ) (text : List ℕ) (n : ℕ) → IsNumber text n → n < b → number_below b text ≡ Some n
unfolding number_below
number_to b text n is less =
    rw (is_number_to text is.digits, lt-ltb (digits_value 10 text) b (subst (λ k. k < b) (sym is.value) less)) (ap (λ k. Some k) is.value)

pub writes_from : (text : List ℕ) (n : ℕ) → writes_number text n ≡ true → IsNumber text n
unfolding writes_number
writes_from text n is =
    let parts = and_parts (is_number text) (digits_value 10 text == n) is in
    record { digits = is_number_from text parts.0; value = eqb-true (digits_value 10 text) n parts.1 }

pub writes_to : (text : List ℕ) (n : ℕ) → IsNumber text n → writes_number text n ≡ true
unfolding writes_number
writes_to text n is = rw (is_number_to text is.digits, eq-eqb (digits_value 10 text) n is.value) refl

pub digits_of_number : (text : List ℕ) (n : ℕ) → IsNumber text n → all_ascii_digits text ≡ true
digits_of_number text n is = numerals.from text is.digits.1
