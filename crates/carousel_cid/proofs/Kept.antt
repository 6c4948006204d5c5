-- Identifiers that are kept at their first places.
use Rattle.std.proofs.Common.{◌≡◌, ℕ, ◌==◌, Bool, true, false, not, ◌&&◌, ◌||◌, cond, List, [], ◌∷◌, ◌++◌, refl, sym, ap, ◌∙◌, append_assoc, append-nil}
use Rattle.std.specs.Prelude.{filter}
use Rattle.std.specs.List.{list_any}
use Rattle.std.proofs.lemmas.Bool.{eqb-true, eq-eqb, eqb-false, ne_eqb, and_parts, or_parts, not-true}
use Rattle.std.proofs.lemmas.List.Folds.{list_any-append}
use Rattle.carousel_cid.specs.Repeats.{first_places, are_different}
use Rattle.carousel_cid.specs.Inner.Walks.{added, added_all}

-- an identifier stands in a list
abbrev pub stands : ℕ → List ℕ → Bool
stands t ts = list_any (λ u. u == t) ts

abbrev is_new : List ℕ → ℕ → Bool
is_new kept t = not (stands t kept)

abbrev differs : ℕ → ℕ → Bool
differs t u = not (u == t)

pub added_all-append : (kept ts us : List ℕ) → added_all kept (ts ++ us) ≡ added_all (added_all kept ts) us
added_all-append kept [] us = refl
added_all-append kept (t ∷ ts) us = added_all-append (added kept t) ts us

-- two tests, one after the other, are one
filter_both : (p q r : ℕ → Bool) → ((u : ℕ) → (q u && p u) ≡ r u) → (xs : List ℕ) → filter p (filter q xs) ≡ filter r xs
filter_both p q r same [] = refl
filter_both p q r same (x ∷ xs) = by (q x) (p x) refl (filter_both p q r same xs) ∙ ap (λ t. cond t (x ∷ filter r xs) (filter r xs)) (same x)
  where
    by : (a b : Bool) → p x ≡ b → filter p (filter q xs) ≡ filter r xs → filter p (cond a (x ∷ filter q xs) (filter q xs)) ≡ cond (a && b) (x ∷ filter r xs) (filter r xs)
    by true true px rest = rw px (ap (λ (ys : List ℕ). x ∷ ys) rest)
    by true false px rest = rw px rest
    by false b px rest = rest

filter_all : (xs : List ℕ) → filter (λ u. true) xs ≡ xs
filter_all [] = refl
filter_all (x ∷ xs) = ap (λ (ys : List ℕ). x ∷ ys) (filter_all xs)

-- what stands there isn't new, so leaving it out first changes nothing
old_out : (kept : List ℕ) (t : ℕ) → stands t kept ≡ true → (u : ℕ) → (differs t u && is_new kept u) ≡ is_new kept u
old_out kept t there u = by (u == t) refl
  where
    by : (b : Bool) → (u == t) ≡ b → (not b && is_new kept u) ≡ is_new kept u
    by true same = rw (eqb-true u t same, there) refl
    by false other = refl

eqb_swap : (t u : ℕ) → (t == u) ≡ (u == t)
eqb_swap t u = by (t == u) refl
  where
    by : (b : Bool) → (t == u) ≡ b → b ≡ (u == t)
    by true same = sym (eq-eqb u t (sym (eqb-true t u same)))
    by false other = sym (ne_eqb u t (λ same. eqb-false t u other (sym same)))

-- with one more, what is new differs from it too
new_out : (kept : List ℕ) (t u : ℕ) → (differs t u && is_new kept u) ≡ is_new (kept ++ t ∷ []) u
new_out kept t u = rw (list_any-append (λ v. v == u) kept (t ∷ []), eqb_swap t u) (by (stands u kept) (u == t))
  where
    by : (a b : Bool) → (not b && not a) ≡ not (a || (b || false))
    by true true = refl
    by true false = refl
    by false true = refl
    by false false = refl

kept_step : (kept ts : List ℕ) (t : ℕ) → ((k : List ℕ) → added_all k ts ≡ k ++ filter (is_new k) (first_places ts))
    → added_all (added kept t) ts ≡ kept ++ filter (is_new kept) (t ∷ filter (differs t) (first_places ts))
kept_step kept ts t later = by (stands t kept) refl
  where
    by : (b : Bool) → stands t kept ≡ b → added_all (cond b kept (kept ++ t ∷ [])) ts ≡ kept
        ++ cond (not b) (t ∷ filter (is_new kept) (filter (differs t) (first_places ts))) (filter (is_new kept) (filter (differs t) (first_places ts)))
    by true there = later kept ∙ ap (λ (ys : List ℕ). kept ++ ys) (sym (filter_both (is_new kept) (differs t) (is_new kept) (old_out kept t there) (first_places ts)))
    by false gone =
        later (kept ++ t ∷ []) ∙ append_assoc kept (t ∷ []) (filter (is_new (kept ++ t ∷ [])) (first_places ts))
        ∙ ap (λ (ys : List ℕ). kept ++ (t ∷ ys)) (sym (filter_both (is_new kept) (differs t) (is_new (kept ++ t ∷ [])) (new_out kept t) (first_places ts)))

kept_on : (ts kept : List ℕ) → added_all kept ts ≡ kept ++ filter (is_new kept) (first_places ts)
kept_on [] kept = sym (append-nil kept)
kept_on (t ∷ ts) kept = kept_step kept ts t (kept_on ts)

-- what is added one by one is each identifier at its first place
pub kept_first : (ts : List ℕ) → added_all [] ts ≡ first_places ts
kept_first ts = kept_on ts [] ∙ filter_all (first_places ts)

-- ---- lists of different identifiers

-- the test leaves out what it doesn't pass
none_left : (t : ℕ) (ts : List ℕ) → stands t (filter (differs t) ts) ≡ false
none_left t [] = refl
none_left t (u ∷ us) = by (u == t) refl (none_left t us)
  where
    by : (b : Bool) → (u == t) ≡ b → stands t (filter (differs t) us) ≡ false → stands t (cond (not b) (u ∷ filter (differs t) us) (filter (differs t) us)) ≡ false
    by true same rest = rest
    by false other rest = rw other rest

-- fewer identifiers have none more
none_more : (p : ℕ → Bool) (t : ℕ) (ts : List ℕ) → stands t ts ≡ false → stands t (filter p ts) ≡ false
none_more p t [] none = refl
none_more p t (u ∷ us) none = by (p u) (or_parts (u == t) (stands t us) none) (none_more p t us (or_parts (u == t) (stands t us) none).1)
  where
    by : (b : Bool) → ((u == t) ≡ false) × (stands t us ≡ false) → stands t (filter p us) ≡ false → stands t (cond b (u ∷ filter p us) (filter p us)) ≡ false
    by true both rest = rw both.0 rest
    by false both rest = rest

different_left : (p : ℕ → Bool) (ts : List ℕ) → are_different ts ≡ true → are_different (filter p ts) ≡ true
different_left p [] all = refl
different_left p (t ∷ ts) all = by (p t) (and_parts (not (stands t ts)) (are_different ts) all)
    (different_left p ts (and_parts (not (stands t ts)) (are_different ts) all).1)
  where
    by : (b : Bool) → (not (stands t ts) ≡ true) × (are_different ts ≡ true)
        → are_different (filter p ts) ≡ true → are_different (cond b (t ∷ filter p ts) (filter p ts)) ≡ true
    by true both rest = rw (none_more p t ts (not-true (stands t ts) both.0), rest) refl
    by false both rest = rest

-- each at its first place alone, they differ
pub first_places_differ : (ts : List ℕ) → are_different (first_places ts) ≡ true
first_places_differ [] = refl
first_places_differ (t ∷ ts) = rw (none_left t (first_places ts), different_left (differs t) (first_places ts) (first_places_differ ts)) refl

without_absent : (t : ℕ) (ts : List ℕ) → stands t ts ≡ false → filter (differs t) ts ≡ ts
without_absent t [] none = refl
without_absent t (u ∷ us) none =
    let both = or_parts (u == t) (stands t us) none in
    rw both.0 (ap (λ (ys : List ℕ). u ∷ ys) (without_absent t us both.1))

-- of different identifiers each stands at its first place
pub first_places_of : (ts : List ℕ) → are_different ts ≡ true → first_places ts ≡ ts
first_places_of [] all = refl
first_places_of (t ∷ ts) all =
    let both = and_parts (not (stands t ts)) (are_different ts) all in
    rw (first_places_of ts both.1) (ap (λ (ys : List ℕ). t ∷ ys) (without_absent t ts (not-true (stands t ts) both.0)))
