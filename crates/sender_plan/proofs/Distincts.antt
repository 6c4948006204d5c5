-- What holds of the elements of a list without repeats, and where each of them stands.
use Rattle.std.proofs.Common.{◌≡◌, ℕ, zero, suc, ◌+◌, Bool, true, false, not, ◌==◌, ◌||◌, cond, List, [], ◌∷◌, Some, refl, sym, ap, subst, ◌∙◌, inl, inr, arith}
use Rattle.std.specs.Prelude.{All, map, filter, slice_get}
use Rattle.std.specs.List.{list_any, position_or_len}
use Rattle.std.proofs.lemmas.Bool.{not-true}
use Rattle.std.proofs.lemmas.Option.{slice_get_cases}
use Rattle.std.proofs.lemmas.List.Elements.{All-nil, All-cons, All-head, All-tail, All-weaker, All-filter, filter_passes}
use Rattle.carousel_cid.specs.Repeats.{first_places}
use Rattle.sender_plan.specs.Distinct.{distinct}

-- ---- of each element

-- what holds of each holds of the one in a place
pub at_place : {X : Type 0} (P : X → Type 0) (xs : List X) (at : ℕ) (x : X) → All P xs → slice_get xs at ≡ Some x → P x
at_place P xs at x all is = elim (slice_get_cases xs at).1 [
  | inl some ↦ let both = sym some.2 ∙ is in subst P (some.3 ∙ (let same : some.0 ≡ x = cc in same)) (all at some.0 some.1)
  | inr past ↦ absurd (let both = sym past.1 ∙ is in cc)
]

pub of_mapped : {X Y : Type 0} (P : Y → Type 0) (f : X → Y) (xs : List X) → All P (map f xs) → All (λ x. P (f x)) xs
of_mapped P f [] all = All-nil (λ x. P (f x))
of_mapped P f (x ∷ xs) all = All-cons (λ x. P (f x)) x xs (All-head P (f x) (map f xs) all) (of_mapped P f xs (All-tail P (f x) (map f xs) all))

pub all_distinct : {X : Type 0} (P : X → Type 0) (same_as : X → X → Bool) (xs : List X) → All P xs → All P (distinct same_as xs)
all_distinct P same_as [] all = all
all_distinct P same_as (x ∷ xs) all =
    All-cons P x (filter (λ y. not (same_as y x)) (distinct same_as xs)) (All-head P x xs all)
    (All-filter (λ y. not (same_as y x)) P (distinct same_as xs) (all_distinct P same_as xs (All-tail P x xs all)))

-- ---- each stands in one place

module _ {X : Type 0} (same_as : X → X → Bool) where
  -- none is the same as one before it
  abbrev AreApart : List X → Type 0
  AreApart [] = Unit {0}
  AreApart (x ∷ xs) = All (λ y. same_as y x ≡ false) xs × AreApart xs

  apart_filtered : (keeps : X → Bool) (xs : List X) → AreApart xs → AreApart (filter keeps xs)
  apart_filtered keeps [] apart = tt
  apart_filtered keeps (x ∷ xs) apart =
      by (keeps x) (All-filter keeps (λ y. same_as y x ≡ false) xs apart.0) (apart_filtered keeps xs apart.1)
    where
      by : (t : Bool) → All (λ y. same_as y x ≡ false) (filter keeps xs) → AreApart (filter keeps xs) → AreApart (cond t (x ∷ filter keeps xs) (filter keeps xs))
      by true others rest = (others, rest)
      by false others rest = rest

  distinct_apart : (xs : List X) → AreApart (distinct same_as xs)
  distinct_apart [] = tt
  distinct_apart (x ∷ xs) =
      let keeps : X → Bool = λ y. not (same_as y x) in
      let kept = distinct same_as xs in (
        All-weaker (λ y. keeps y ≡ true) (λ y. same_as y x ≡ false) (λ y is. not-true (same_as y x) is) (filter keeps kept) (filter_passes keeps kept),
        apart_filtered keeps kept (distinct_apart xs),
      )

  place_of : ((x : X) → same_as x x ≡ true) → (xs : List X) (at : ℕ) (x : X) → AreApart xs → slice_get xs at ≡ Some x → position_or_len (same_as x) xs ≡ at
  place_of itself [] at x apart is = absurd cc
  place_of itself (y ∷ ys) zero x apart is = rw (subst (λ z. same_as x z ≡ true) (let same : x ≡ y = cc in same) (itself x)) refl
  place_of itself (y ∷ ys) (suc at) x apart is =
      rw (at_place (λ z. same_as z y ≡ false) ys at x apart.0 is) (let later = place_of itself ys at x apart.1 is in omega (arith, later))

  -- an element is found in its own place
  pub own_place : ((x : X) → same_as x x ≡ true) → (xs : List X) (at : ℕ) (x : X)
      → slice_get (distinct same_as xs) at ≡ Some x → position_or_len (same_as x) (distinct same_as xs) ≡ at
  own_place itself xs at x is = place_of itself (distinct same_as xs) at x (distinct_apart xs) is

-- the first element that passes stands in its place
pub first_at : {X : Type 0} (p : X → Bool) (xs : List X) → list_any p xs ≡ true → (x : X) × (slice_get xs (position_or_len p xs) ≡ Some x) × (p x ≡ true)
first_at p [] there = absurd cc
first_at {X} p (x ∷ xs) there = by (p x) refl there (first_at p xs)
  where
    by : (t : Bool) → p x ≡ t → (t || list_any p xs) ≡ true
        → (list_any p xs ≡ true → (y : X) × (slice_get xs (position_or_len p xs) ≡ Some y) × (p y ≡ true))
        → (y : X) × (slice_get (x ∷ xs) (cond (not t) (1 + position_or_len p xs) 0) ≡ Some y) × (p y ≡ true)
    by true is there later = (x, refl, is)
    by false is there later =
        let y = later there in
        let next : 1 + position_or_len p xs ≡ suc (position_or_len p xs) = omega arith in
        (y.0, ap (slice_get (x ∷ xs)) next ∙ y.1, y.2)

-- ---- numbers at their first places

module _ {X : Type 0} (number : X → ℕ) (same_as : X → X → Bool) (P : X → Type 0) where
  abbrev pub Agree : Type 0
  Agree = (x y : X) → P x → P y → (number y == number x) ≡ same_as y x

  others_numbered : Agree → (x : X) (ys : List X) → P x → All P ys
      → filter (λ n. not (n == number x)) (map number ys) ≡ map number (filter (λ y. not (same_as y x)) ys)
  others_numbered agree x [] here all = refl
  others_numbered agree x (y ∷ ys) here all =
      rw (agree x y here (All-head P y ys all)) (by (same_as y x) (others_numbered agree x ys here (All-tail P y ys all)))
    where
      by : (t : Bool) → filter (λ n. not (n == number x)) (map number ys) ≡ map number (filter (λ z. not (same_as z x)) ys)
          → cond (not t) (number y ∷ filter (λ n. not (n == number x)) (map number ys)) (filter (λ n. not (n == number x)) (map number ys))
          ≡ map number (cond (not t) (y ∷ filter (λ z. not (same_as z x)) ys) (filter (λ z. not (same_as z x)) ys))
      by true rest = rest
      by false rest = ap (λ ns. number y ∷ ns) rest

  -- where numbers tell elements apart as the test does, they come without repeats as the elements do
  pub first_numbered : Agree → (xs : List X) → All P xs → first_places (map number xs) ≡ map number (distinct same_as xs)
  first_numbered agree [] all = refl
  first_numbered agree (x ∷ xs) all =
      let rest = All-tail P x xs all in
      ap (λ ns. number x ∷ filter (λ n. not (n == number x)) ns) (first_numbered agree xs rest)
      ∙ ap (λ ns. number x ∷ ns) (others_numbered agree x (distinct same_as xs) (All-head P x xs all) (all_distinct P same_as xs rest))
