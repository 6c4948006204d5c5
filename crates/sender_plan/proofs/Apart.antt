-- Identifiers tell contents apart.
use Rattle.std.proofs.Common.{◌≡◌, ◌+◌, Bool, true, false, not, ◌==◌, ◌||◌, cond, List, [], ◌∷◌, refl, sym, ap, ◌∙◌, arith}
use Rattle.std.specs.List.{list_any, position_or_len}
use Rattle.std.proofs.lemmas.Bool.{eqb-true}
use Rattle.sender_plan.specs.Distinct.{distinct}
use Rattle.sender_plan.specs.Content.{Content, File, Descriptor, same, identifier}
use Rattle.sender_plan.specs.Inner.Sets.{added, added_all}
use Rattle.sender_plan.proofs.Sets.{added_all-distinct, any_through}
use Rattle.sender_plan.proofs.Keys.{equal_files}
use Rattle.sender_plan.proofs.Identifiers.{is_added, content_itself, any_stays}
use Rattle.sender_plan.proofs.Sessions.{same_transitive}

-- what is the same is the same as the same contents
alike : (a b x : Content) → same a b ≡ true → same a x ≡ same b x
alike (File l k y) (File m j z) x is = ap (λ c. same c x) (equal_files l m k j y z is)
alike (File l k y) (Descriptor j) x is = absurd cc
alike (Descriptor i) (File m j z) x is = absurd cc
alike (Descriptor i) (Descriptor j) (File n h w) is = refl
alike (Descriptor i) (Descriptor j) (Descriptor k) is = ap (λ n. n == k.number) (eqb-true i.number j.number is)

pub one_identifier : (all : List Content) (a b : Content) → same a b ≡ true → identifier all a ≡ identifier all b
one_identifier all a b is = ap (λ p. position_or_len p (distinct same all) + 1) (λ i x. alike a b x is i)

-- ---- the content at a place

module _ {X : Type 0} (p q : X → Bool) where
  at_one_place : (xs : List X) → list_any p xs ≡ true → list_any q xs ≡ true → position_or_len p xs ≡ position_or_len q xs
      → (x : X) × (p x ≡ true) × (q x ≡ true)
  at_one_place [] first second is = absurd cc
  at_one_place (x ∷ xs) first second is = by (p x) (q x) refl refl first second is (at_one_place xs)
    where
      by : (t u : Bool) → p x ≡ t → q x ≡ u → (t || list_any p xs) ≡ true → (u || list_any q xs) ≡ true
          → cond (not t) (1 + position_or_len p xs) 0 ≡ cond (not u) (1 + position_or_len q xs) 0
          → (list_any p xs ≡ true → list_any q xs ≡ true → position_or_len p xs ≡ position_or_len q xs → (x : X) × (p x ≡ true) × (q x ≡ true))
          → (x : X) × (p x ≡ true) × (q x ≡ true)
      by true true here there first second is later = (x, here, there)
      by true false here there first second is later = absurd (omega (arith, is))
      by false true here there first second is later = absurd (omega (arith, is))
      by false false here there first second is later = later first second (omega (arith, is))

still_there : (c : Content) (kept xs : List Content) → list_any (same c) xs ≡ true → list_any (same c) (added_all same kept xs) ≡ true
still_there c kept [] there = absurd cc
still_there c kept (x ∷ xs) there = by (same c x) refl there (still_there c (added same kept x) xs)
  where
    by : (t : Bool) → same c x ≡ t → (t || list_any (same c) xs) ≡ true → (list_any (same c) xs ≡ true → list_any (same c) (added_all same (added same kept x) xs) ≡ true)
        → list_any (same c) (added_all same (added same kept x) xs) ≡ true
    by true is there later =
        any_stays same (same c) (added same kept x) xs (any_through same same_transitive c x (added same kept x) is (is_added same kept x (content_itself x)))
    by false is there later = later there

pub in_distinct : (all : List Content) (c : Content) → list_any (same c) all ≡ true → list_any (same c) (distinct same all) ≡ true
in_distinct all c there = ap (list_any (same c)) (sym (added_all-distinct same same_transitive all)) ∙ still_there c [] all there

pub other_identifiers : (all : List Content) (a b : Content) → list_any (same a) all ≡ true → list_any (same b) all ≡ true
    → identifier all a ≡ identifier all b → same a b ≡ true
other_identifiers all a b first second is =
    let kept = distinct same all in
    let place : position_or_len (same a) kept ≡ position_or_len (same b) kept = omega (arith, is) in
    let found = at_one_place (same a) (same b) kept (in_distinct all a first) (in_distinct all b second) place in
    let back : same found.0 b ≡ true = sym (alike b found.0 b found.2) ∙ content_itself b in
    same_transitive a found.0 b found.1 back
