-- The identifiers that an instance lists.
use Rattle.std.proofs.Common.{◌≡◌, ℕ, ◌+◌, ◌≤◌, Bool, true, false, not, ◌==◌, ◌||◌, cond, List, [], ◌∷◌, ◌++◌, length}
use Rattle.std.proofs.Common.{length-append, Result, Ok, Err, refl, sym, ap, subst, ◌∙◌, append_assoc, append-nil, arith}
use Rattle.std.specs.Prelude.{map, filter, IfOk, OnOk}
use Rattle.std.specs.List.{list_any, IsDistinct, AllByRecursion}
use Rattle.std.proofs.lemmas.Bool.{eqb-true, eq-eqb, false_from_ne_true}
use Rattle.std.proofs.lemmas.List.{map-append}
use Rattle.std.proofs.lemmas.List.Folds.{list_any-append}
use Rattle.carousel_cid.specs.Repeats.{first_places, are_different}
use Rattle.sender_plan.specs.Distinct.{distinct}
use Rattle.sender_plan.specs.Content.{Content, File, Descriptor, same}
use Rattle.sender_plan.specs.Inner.Sets.{added, added_all, IsTransitive}
use Rattle.sender_plan.specs.Inner.Planning.{place_in}
use Rattle.sender_plan.proofs.Sets.{added_all-append, added_all-distinct}
use Rattle.sender_plan.proofs.Keys.{files_itself}
use Rattle.sender_plan.proofs.Keeping.{place_in_front}
use Rattle.sender_plan.proofs.Planned.{distinct_length}

abbrev pub number_same : ℕ → ℕ → Bool
number_same a b = a == b

numbers_transitive : IsTransitive number_same
numbers_transitive a b c ab bc = eq-eqb a c (eqb-true a b ab ∙ eqb-true b c bc)

-- ---- lists without repeats

none_same : (t : ℕ) (ts : List ℕ) → AllByRecursion (λ u. number_same t u ≡ false) ts → list_any (λ u. u == t) ts ≡ false
none_same t [] none = refl
none_same t (u ∷ ts) none =
    let differ : (u == t) ≡ false = false_from_ne_true (u == t) (λ is. let back = eq-eqb t u (sym (eqb-true u t is)) in absurd (let here = none.0 in cc)) in
    rw (differ, none_same t ts none.1) refl

pub different_keys : (keys : List ℕ) → IsDistinct number_same keys → are_different keys ≡ true
unfolding IsDistinct
different_keys [] distinct = refl
different_keys (t ∷ ts) distinct = rw (none_same t ts distinct.0, different_keys ts distinct.1) refl

first_places_distinct : (ts : List ℕ) → first_places ts ≡ distinct number_same ts
first_places_distinct [] = refl
first_places_distinct (t ∷ ts) = ap (λ us. t ∷ filter (λ u. not (u == t)) us) (first_places_distinct ts)

pub added_all-first_places : (ts : List ℕ) → added_all number_same [] ts ≡ first_places ts
added_all-first_places ts = added_all-distinct number_same numbers_transitive ts ∙ sym (first_places_distinct ts)

pub first_places_length : (ts : List ℕ) → length (first_places ts) ≤ length ts
first_places_length ts = omega (arith, ap length (first_places_distinct ts), distinct_length number_same ts)

-- ---- what is made of a list

pub if_ok_made : {V E : Type 0} (items : V → List ℕ) (P : List ℕ → Type 0) (r : Result V E) (keys : List ℕ) → IfOk r (λ v. items v ≡ keys) → P keys
    → IfOk r (λ v. P (items v))
if_ok_made items P (Ok v) keys is given = subst P (sym is) given
if_ok_made items P (Err e) keys is given = tt

pub on_ok_given : {V E P : Type 0} (r : Result V E) → P → OnOk r P
on_ok_given (Ok v) given = given
on_ok_given (Err e) given = tt

-- ---- lists that grow

module _ {X : Type 0} (same_as : X → X → Bool) where
  pub is_added : (kept : List X) (x : X) → same_as x x ≡ true → list_any (same_as x) (added same_as kept x) ≡ true
  is_added kept x itself = by (list_any (same_as x) kept) refl
    where
      by : (t : Bool) → list_any (same_as x) kept ≡ t → list_any (same_as x) (cond t kept (kept ++ x ∷ [])) ≡ true
      by true there = there
      by false none = rw (list_any-append (same_as x) kept (x ∷ []), none, itself) refl

  pub added_front : (kept : List X) (x : X) (more : List X) → (rest : List X) × (added same_as kept x ++ more ≡ kept ++ rest)
  added_front kept x more = by (list_any (same_as x) kept)
    where
      by : (t : Bool) → (rest : List X) × (cond t kept (kept ++ x ∷ []) ++ more ≡ kept ++ rest)
      by true = (more, refl)
      by false = (x ∷ more, append_assoc kept (x ∷ []) more)

  pub added_all_front : (kept xs : List X) → (rest : List X) × (added_all same_as kept xs ≡ kept ++ rest)
  added_all_front kept [] = ([], sym (append-nil kept))
  added_all_front kept (x ∷ xs) =
      let later = added_all_front (added same_as kept x) xs in
      let here = added_front kept x later.0 in
      (here.0, later.1 ∙ here.1)

  pub added_all_grows : (kept xs : List X) → length kept ≤ length (added_all same_as kept xs)
  added_all_grows kept xs = let more = added_all_front kept xs in omega (arith, ap length more.1, length-append kept more.0)

  any_front : (p : X → Bool) (xs ys : List X) → list_any p xs ≡ true → list_any p (xs ++ ys) ≡ true
  any_front p xs ys there = rw (list_any-append p xs ys, there) refl

  -- what some element passes, some element passes once more are added
  pub any_stays : (p : X → Bool) (kept xs : List X) → list_any p kept ≡ true → list_any p (added_all same_as kept xs) ≡ true
  any_stays p kept xs there = let more = added_all_front kept xs in ap (list_any p) more.1 ∙ any_front p kept more.0 there

  -- each of these is there once all are added
  pub all_added : ((x : X) → same_as x x ≡ true) → (kept xs : List X) → AllByRecursion (λ x. list_any (same_as x) (added_all same_as kept xs) ≡ true) xs
  all_added itself kept [] = tt
  all_added itself kept (x ∷ xs) =
      let front = added_all_front (added same_as kept x) xs in (
        ap (list_any (same_as x)) front.1 ∙ any_front (same_as x) (added same_as kept x) front.0 (is_added kept x (itself x)),
        all_added itself (added same_as kept x) xs,
      )

  -- what none of these passes, none of the list passes once they are added
  none_added : (p : X → Bool) (kept : List X) (x : X) → list_any p kept ≡ false → p x ≡ false → list_any p (added same_as kept x) ≡ false
  none_added p kept x before here = by (list_any (same_as x) kept)
    where
      by : (t : Bool) → list_any p (cond t kept (kept ++ x ∷ [])) ≡ false
      by true = before
      by false = rw (list_any-append p kept (x ∷ []), before, here) refl

  pub none_added_all : (p : X → Bool) (kept xs : List X) → list_any p kept ≡ false → list_any p xs ≡ false → list_any p (added_all same_as kept xs) ≡ false
  none_added_all p kept [] before none = before
  none_added_all p kept (x ∷ xs) before none = by (p x) refl none (λ here. none_added_all p (added same_as kept x) xs (none_added p kept x before here))
    where
      by : (t : Bool) → p x ≡ t → (t || list_any p xs) ≡ false → (p x ≡ false → list_any p xs ≡ false → list_any p (added_all same_as (added same_as kept x) xs) ≡ false)
          → list_any p (added_all same_as (added same_as kept x) xs) ≡ false
      by true here none later = absurd cc
      by false here none later = later here none

pub each_more : {X : Type 0} (P : X → Type 0) (xs : List X) (x : X) → AllByRecursion P xs → P x → AllByRecursion P (xs ++ x ∷ [])
each_more P [] x all here = (here, tt)
each_more P (y ∷ ys) x all here = (all.0, each_more P ys x all.1 here)

pub added_each : {X : Type 0} (P : X → Type 0) (same_as : X → X → Bool) (kept : List X) (x : X) → AllByRecursion P kept → P x → AllByRecursion P (added same_as kept x)
added_each {X} P same_as kept x all here = by (list_any (same_as x) kept)
  where
    by : (t : Bool) → AllByRecursion P (cond t kept (kept ++ x ∷ []))
    by true = all
    by false = each_more P kept x all here

pub added_length : {X : Type 0} (same_as : X → X → Bool) (kept : List X) (x : X) → length (added same_as kept x) ≤ length kept + 1
added_length {X} same_as kept x = by (list_any (same_as x) kept)
  where
    by : (t : Bool) → length (cond t kept (kept ++ x ∷ [])) ≤ length kept + 1
    by true = omega arith
    by false = omega (arith, length-append kept (x ∷ []))

-- ---- identifiers of contents

pub content_itself : (c : Content) → same c c ≡ true
content_itself (File location kind body) = files_itself location kind body
content_itself (Descriptor i) = eq-eqb i.number i.number refl

-- the identifiers of files, and of one file more
pub listed_more : (kept files : List Content) (file : Content) (toi : ℕ) (old new : List ℕ)
    → ((more : List Content) → old ≡ added_all number_same [] (map (place_in (added_all same kept files ++ more)) files))
    → toi ≡ place_in (added same (added_all same kept files) file) file → new ≡ added number_same old toi
    → (more : List Content)
    → new ≡ added_all number_same [] (map (place_in (added_all same kept (files ++ file ∷ []) ++ more)) (files ++ file ∷ []))
listed_more kept files file toi old new before is made more =
    let held = added_all same kept files in
    let held' = added same held file in
    let step : added_all same kept (files ++ file ∷ []) ≡ held' = added_all-append same kept files (file ∷ []) in
    let front = added_front same held file more in
    let olds : old ≡ added_all number_same [] (map (place_in (held' ++ more)) files) =
    before front.0 ∙ ap (λ (ks : List Content). added_all number_same [] (map (place_in ks) files)) (sym front.1) in
    let there = is_added same held file (content_itself file) in
    let last : toi ≡ place_in (held' ++ more) file = is ∙ ap (λ n. n + 1) (sym (place_in_front (same file) held' more there)) in
    made
    ∙ (λ i. added number_same (olds i) (last i))
    ∙ sym (added_all-append number_same [] (map (place_in (held' ++ more)) files) (place_in (held' ++ more) file ∷ []))
    ∙ ap (added_all number_same []) (sym (map-append (place_in (held' ++ more)) files (file ∷ [])))
    ∙ ap (λ (ks : List Content). added_all number_same [] (map (place_in (ks ++ more)) (files ++ file ∷ []))) (sym step)
