-- A list to which elements are added one after another has each at its first place alone.
use Rattle.std.proofs.Common.{◌≡◌, ℕ, Bool, true, false, not, ◌||◌, cond, List, [], ◌∷◌, ◌++◌, Bor, refl, sym, ap, ◌∙◌, append_assoc, append-nil, inl, inr}
use Rattle.std.specs.Prelude.{map, filter}
use Rattle.std.specs.List.{list_any}
use Rattle.std.specs.Str.{bytes_eq}
use Rattle.std.proofs.lemmas.Bool.{or_cases}
use Rattle.std.proofs.lemmas.List.{map-append}
use Rattle.std.proofs.lemmas.List.Folds.{list_any-append}
use Rattle.std.proofs.lemmas.Slice.Eq.{bytes_eq-Decides}
use Rattle.sender_plan.specs.Distinct.{distinct}
use Rattle.sender_plan.specs.Inner.Sets.{added, added_all, IsTransitive}

pub or_second : (t u : Bool) → u ≡ true → (t || u) ≡ true
or_second true u is = refl
or_second false u is = is

module _ {X : Type 0} (same : X → X → Bool) where
  pub added_all-append : (kept xs ys : List X) → added_all same kept (xs ++ ys) ≡ added_all same (added_all same kept xs) ys
  added_all-append kept [] ys = refl
  added_all-append kept (x ∷ xs) ys = added_all-append (added same kept x) xs ys

  -- nothing in the list is the same as this
  abbrev others : List X → X → Bool
  others kept y = not (list_any (same y) kept)

  pub any_through : IsTransitive same → (y x : X) (kept : List X) → same y x ≡ true → list_any (same x) kept ≡ true → list_any (same y) kept ≡ true
  any_through trans y x [] is there = absurd cc
  any_through trans y x (k ∷ kept) is there = elim (or_cases (same x k) (list_any (same x) kept) there) [
    | inl here ↦ rw (trans y x k is here) refl
    | inr later ↦ or_second (same y k) (list_any (same y) kept) (any_through trans y x kept is later)
  ]

  -- what is the same as an element that is there already is there too
  pass_here : IsTransitive same → (kept : List X) (x : X) → list_any (same x) kept ≡ true → (xs : List X)
      → filter (others kept) (filter (λ y. not (same y x)) xs) ≡ filter (others kept) xs
  pass_here trans kept x there [] = refl
  pass_here trans kept x there (y ∷ ys) = by (same y x) refl (pass_here trans kept x there ys)
    where
      by : (t : Bool) → same y x ≡ t → filter (others kept) (filter (λ y. not (same y x)) ys) ≡ filter (others kept) ys
          → filter (others kept) (cond (not t) (y ∷ filter (λ y. not (same y x)) ys) (filter (λ y. not (same y x)) ys)) ≡ filter (others kept) (y ∷ ys)
      by true is rest = rw (any_through trans y x kept is there) rest
      by false is rest = ap (λ zs. cond (others kept y) (y ∷ zs) zs) rest

  -- what isn't there with one element more isn't there, and isn't that
  pass_new : (kept : List X) (x : X) (xs : List X) → filter (others (kept ++ x ∷ [])) xs ≡ filter (others kept) (filter (λ y. not (same y x)) xs)
  pass_new kept x [] = refl
  pass_new kept x (y ∷ ys) = rw (list_any-append (same y) kept (x ∷ [])) (by (list_any (same y) kept) (same y x) refl (pass_new kept x ys))
    where
      by : (t u : Bool) → list_any (same y) kept ≡ t → filter (others (kept ++ x ∷ [])) ys ≡ filter (others kept) (filter (λ y. not (same y x)) ys)
          → cond (not (t || (u || false))) (y ∷ filter (others (kept ++ x ∷ [])) ys) (filter (others (kept ++ x ∷ [])) ys)
          ≡ filter (others kept) (cond (not u) (y ∷ filter (λ y. not (same y x)) ys) (filter (λ y. not (same y x)) ys))
      by true true is rest = rest
      by false true is rest = rest
      by true false is rest = rw is rest
      by false false is rest = rw is (ap (λ zs. y ∷ zs) rest)

  kept_and_new : IsTransitive same → (kept xs : List X) → added_all same kept xs ≡ kept ++ filter (others kept) (distinct same xs)
  kept_and_new trans kept [] = sym (append-nil kept)
  kept_and_new trans kept (x ∷ xs) = by (list_any (same x) kept) refl (kept_and_new trans kept xs) (kept_and_new trans (kept ++ x ∷ []) xs)
    where
      by : (t : Bool) → list_any (same x) kept ≡ t → added_all same kept xs ≡ kept ++ filter (others kept) (distinct same xs)
          → added_all same (kept ++ x ∷ []) xs ≡ (kept ++ x ∷ []) ++ filter (others (kept ++ x ∷ [])) (distinct same xs)
          → added_all same (cond t kept (kept ++ x ∷ [])) xs
          ≡ kept ++ cond (not t) (x ∷ filter (others kept) (filter (λ y. not (same y x)) (distinct same xs)))
          (filter (others kept) (filter (λ y. not (same y x)) (distinct same xs)))
      by true is here more = here ∙ ap (λ zs. kept ++ zs) (sym (pass_here trans kept x is (distinct same xs)))
      by false is here more =
          more ∙ append_assoc kept (x ∷ []) (filter (others (kept ++ x ∷ [])) (distinct same xs)) ∙ ap (λ zs. kept ++ x ∷ zs) (pass_new kept x (distinct same xs))

  all_others : (xs : List X) → filter (others []) xs ≡ xs
  all_others [] = refl
  all_others (x ∷ xs) = ap (λ zs. x ∷ zs) (all_others xs)

  pub added_all-distinct : IsTransitive same → (xs : List X) → added_all same [] xs ≡ distinct same xs
  added_all-distinct trans xs = kept_and_new trans [] xs ∙ all_others (distinct same xs)

pub bytes_transitive : IsTransitive bytes_eq
bytes_transitive a b c ab bc = (bytes_eq-Decides a c).1 ((bytes_eq-Decides a b).0 ab ∙ (bytes_eq-Decides b c).0 bc)

pub any_shown : (p : List ℕ → Bool) (keys : List (Bor (List ℕ))) → list_any (λ k. p k.now) keys ≡ list_any p (map (λ k. k.now) keys)
any_shown p [] = refl
any_shown p (k ∷ keys) = ap (λ t. p k.now || t) (any_shown p keys)

-- references are told apart by what they show
pub map-added : (keys : List (Bor (List ℕ))) (key : Bor (List ℕ))
    → map (λ k. k.now) (added (λ a b. bytes_eq a.now b.now) keys key) ≡ added bytes_eq (map (λ k. k.now) keys) key.now
map-added keys key = by (list_any (λ k. bytes_eq key.now k.now) keys) (any_shown (bytes_eq key.now) keys)
  where
    by : (t : Bool) → t ≡ list_any (bytes_eq key.now) (map (λ k. k.now) keys)
        → map (λ k. k.now) (cond t keys (keys ++ key ∷ [])) ≡ cond (list_any (bytes_eq key.now) (map (λ k. k.now) keys)) (map (λ k. k.now) keys)
        (map (λ k. k.now) keys ++ key.now ∷ [])
    by true is = rw (sym is) refl
    by false is = rw (sym is) (map-append (λ (k : Bor (List ℕ)). k.now) keys (key ∷ []))
