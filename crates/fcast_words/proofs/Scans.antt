-- Steps of the loops over words.
use Rattle.std.proofs.Common.{◌≡◌, ◌<◌, ◌≤◌, ◌+◌, ◌-◌, ◌&&◌, ℕ, suc, Bool, true, false, List, [], ◌∷◌, length, take, drop, get_or}
use Rattle.std.proofs.Common.{refl, ap, ◌∙◌, arith, drop-cons, add-one, drop_of_length-le}
use Rattle.std.specs.Str.{bytes_eq}
use Rattle.std.proofs.lemmas.List.{take_all, length-drop}
use Rattle.fcast_words.specs.Pairs.{Text, is_value}
use Rattle.fcast_words.specs.Shape.{is_name}
use Rattle.fcast_words.specs.Inner.Scan.{has_name, scan}

-- the words from a place on, where one is left or more
one_here : (words : List Text) (place : ℕ) (n : Text) → place < length words → n ≡ get_or words place n → drop place words ≡ n ∷ drop (place + 1) words
one_here words place n fits is = drop-cons words place n fits ∙ rw (← is, add-one) refl

-- where two are left or more
two_here : (words : List Text) (place : ℕ) (n v : Text) → place + 1 < length words → n ≡ get_or words place n → v ≡ get_or words (place + 1) v
    → drop place words ≡ n ∷ v ∷ drop (place + 2) words
two_here words place n v fits is is-v =
    let next : place + 1 + 1 ≡ place + 2 = omega arith in
    one_here words place n (omega arith) is ∙ ap (λ ws. n ∷ ws) (one_here words (place + 1) v fits is-v ∙ rw next refl)

-- a slice up to the end
pub all_left : (words : List Text) (place : ℕ) → take (length words - place) (drop place words) ≡ drop place words
all_left words place = take_all (length words - place) (drop place words) (omega (arith, length-drop place words))

-- ---- the search for a name

found_first : (name n : Text) (rest : List Text) → bytes_eq n name ≡ true → has_name name (n ∷ rest) ≡ true
found_first name n [] e = e
found_first name n (v ∷ rest) e = rw e refl

-- the name is the one at the place
pub name_here : (name : Text) (words : List Text) (place : ℕ) (n : Text) → place < length words → n ≡ get_or words place n → bytes_eq n name ≡ true
    → has_name name (drop place words) ≡ true
name_here name words place n fits is e = rw (one_here words place n fits is) (found_first name n (drop (place + 1) words) e)

-- the name is not the one at the place
pub name_later : (name : Text) (words : List Text) (place : ℕ) (n : Text) → place + 1 < length words → n ≡ get_or words place n → bytes_eq n name ≡ false
    → has_name name (drop (place + 2) words) ≡ has_name name (drop place words)
name_later name words place n fits is e =
    let next : place + 1 + 1 ≡ place + 2 = omega arith in
    let last = drop-cons words (place + 1) n fits in
    rw (one_here words place n (omega arith) is, last, e, ← next, add-one) refl

-- ---- the scan

-- a name without a value
pub no_value : (words : List Text) (place : ℕ) → place < length words → length words ≤ place + 1 → scan (drop place words) ≡ false
no_value words place fits last =
    let next : length words ≤ suc place = omega arith in
    rw (drop-cons words place [] fits, drop_of_length-le words next) refl

module _ (words : List Text) (place : ℕ) (n v : Text) (fits : place + 1 < length words) (name : n ≡ get_or words place n) (value : v ≡ get_or words (place + 1) v) where
  -- the name stands once more behind its value
  pub name_twice : has_name n (drop (place + 2) words) ≡ true → scan (drop place words) ≡ false
  name_twice again = rw (two_here words place n v fits name value, again) (by (is_name n) (is_value v))
    where
      by : (named valued : Bool) → (named && (valued && false)) ≡ false
      by false valued = refl
      by true false = refl
      by true true = refl

  -- the pair is well shaped, and so the scan goes on behind it
  pub good_pair : is_name n ≡ true → is_value v ≡ true → has_name n (drop (place + 2) words) ≡ false → scan (drop (place + 2) words) ≡ scan (drop place words)
  good_pair named valued new = rw (two_here words place n v fits name value, named, valued, new) refl
