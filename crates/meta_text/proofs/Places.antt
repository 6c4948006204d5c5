-- The first place in a list at which a test passes.
use Rattle.std.proofs.Common.{◌≡◌, ℕ, suc, ◌+◌, ◌<◌, ◌≤◌, Bool, true, false, not, ◌||◌, cond, ltb, List, [], ◌∷◌, length, Some, None, refl, arith}
use Rattle.std.specs.Prelude.{position}
use Rattle.std.specs.List.{position_or_len, list_any}
use Rattle.std.proofs.lemmas.Bool.{ltb-true, ltb-false}

-- a place that was found is the first one, and stands in the list
pub found_at : {X : Type 0} (p : X → Bool) (xs : List X) (at : ℕ) → position p xs ≡ Some at → (position_or_len p xs ≡ at) × (at < length xs)
found_at p xs at e = by (ltb (position_or_len p xs) (length xs)) refl e
  where
    by : (t : Bool) → ltb (position_or_len p xs) (length xs) ≡ t → cond t (Some (position_or_len p xs)) None ≡ Some at → (position_or_len p xs ≡ at) × (at < length xs)
    by true less e = let same : position_or_len p xs ≡ at = cc in (same, omega (arith, ltb-true (position_or_len p xs) (length xs) less))
    by false less e = absurd cc

pub none_at : {X : Type 0} (p : X → Bool) (xs : List X) → position p xs ≡ None → length xs ≤ position_or_len p xs
none_at p xs e = by (ltb (position_or_len p xs) (length xs)) refl e
  where
    by : (t : Bool) → ltb (position_or_len p xs) (length xs) ≡ t → cond t (Some (position_or_len p xs)) None ≡ None → length xs ≤ position_or_len p xs
    by true less e = absurd cc
    by false less e = ltb-false (position_or_len p xs) (length xs) less

-- some element passes exactly where there is a place
pub any_from_place : {X : Type 0} (p : X → Bool) (xs : List X) → position_or_len p xs < length xs → list_any p xs ≡ true
any_from_place p [] less = absurd (omega arith)
any_from_place p (x ∷ xs) less = by (p x) (any_from_place p xs) less
  where
    by : (t : Bool) → (position_or_len p xs < length xs → list_any p xs ≡ true)
        → cond (not t) (1 + position_or_len p xs) 0 < suc (length xs) → (t || list_any p xs) ≡ true
    by true later less = refl
    by false later less = later (omega arith)

pub any_without_place : {X : Type 0} (p : X → Bool) (xs : List X) → length xs ≤ position_or_len p xs → list_any p xs ≡ false
any_without_place p [] none = refl
any_without_place p (x ∷ xs) none = by (p x) (any_without_place p xs) none
  where
    by : (t : Bool) → (length xs ≤ position_or_len p xs → list_any p xs ≡ false)
        → suc (length xs) ≤ cond (not t) (1 + position_or_len p xs) 0 → (t || list_any p xs) ≡ false
    by true later none = absurd (omega arith)
    by false later none = later (omega arith)
