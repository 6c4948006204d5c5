-- Tests, counts and sums over the numbers below a bound.
use Rattle.std.proofs.Common.{◌≡◌, ◌≢◌, ℕ, zero, suc, ◌+◌, ◌<◌, ◌≤◌, Bool, true, false, ◌&&◌, List, [], ◌∷◌, ◌++◌, length, get_or}
use Rattle.std.proofs.Common.{All, AllPairs, refl, sym, ap, subst, ◌∙◌, arith, add-one, inl, inr}
use Rattle.std.specs.Prelude.{if◌then◌else◌}
use Rattle.std.proofs.lemmas.Bool.{cases_lt, and_parts}
use Rattle.std.proofs.Math.ListN.{get_or-append}
use Rattle.std.proofs.Math.Seq.{get_or-append_seam}
use Rattle.std.proofs.lemmas.List.{length-append, append-nil}
use Rattle.std.proofs.lemmas.List.Elements.{All-push}
use Rattle.std.proofs.lemmas.List.Quantifiers.{all_pairs_push}
use Rattle.wire_bytes.specs.Below.{count_below, sum_below, all_below, join_below, which_below}

-- ---- tests

-- false behind any test gives false
and_false : (b : Bool) → (b && false) ≡ false
and_false true = refl
and_false false = refl

-- one more number passes
pub all_below_more : (n : ℕ) (p : ℕ → Bool) → all_below n p ≡ true → p n ≡ true → all_below (n + 1) p ≡ true
all_below_more n p all here = rw (add-one, all, here) refl

-- of numbers up to n, one that fails is less where n passes
failing_is_less : (n k : ℕ) (p : ℕ → Bool) → k < suc n → p k ≡ false → p n ≡ true → k < n
failing_is_less n k p less fails passes = elim (cases_lt k n) [
  | inl h ↦ h
  | inr h ↦ let same : k ≡ n = omega arith in absurd (let both : true ≡ false = sym passes ∙ ap p (sym same) ∙ fails in cc)
]

-- a number that doesn't pass
pub not_all_below : (n k : ℕ) (p : ℕ → Bool) → k < n → p k ≡ false → all_below n p ≡ false
not_all_below zero k p less fails = absurd (omega arith)
not_all_below (suc n) k p less fails = elim (p n) as (λ b. p n ≡ b → (all_below n p && b) ≡ false) [
  | false ↦ λ e. and_false (all_below n p)
  | true ↦ λ e. rw (not_all_below n k p (failing_is_less n k p less fails e) fails) refl
] refl

-- where all pass, each does
pub passes_below : (n k : ℕ) (p : ℕ → Bool) → all_below n p ≡ true → k < n → p k ≡ true
passes_below zero k p all less = absurd (omega arith)
passes_below (suc n) k p all less =
    let parts = and_parts (all_below n p) (p n) all in
    elim (cases_lt k n) [
      | inl h ↦ passes_below n k p parts.0 h
      | inr h ↦ let same : k ≡ n = omega arith in ap p same ∙ parts.1
    ]

-- where each passes, all do
pub all_pass : (n : ℕ) (p : ℕ → Bool) → ((k : ℕ) → k < n → p k ≡ true) → all_below n p ≡ true
all_pass zero p each = refl
all_pass (suc n) p each = rw (all_pass n p (λ k less. each k (omega arith)), each n (omega arith)) refl

-- tests that agree below n
pub all_same : (n : ℕ) (p q : ℕ → Bool) → ((k : ℕ) → k < n → p k ≡ q k) → all_below n p ≡ all_below n q
all_same zero p q same = refl
all_same (suc n) p q same = rw (all_same n p q (λ k less. same k (omega arith)), same n (omega arith)) refl

-- ---- counts

-- a count is a sum of ones
pub count_is_sum : (n : ℕ) (p : ℕ → Bool) → count_below n p ≡ sum_below n (λ k. if p k then 1 else 0)
count_is_sum zero p = refl
count_is_sum (suc n) p = ap (λ c. c + (if p n then 1 else 0)) (count_is_sum n p)

one_if_within : (b c : Bool) → (b ≡ true → c ≡ true) → (if b then 1 else 0) ≤ (if c then 1 else 0)
one_if_within true c more = rw (more refl) (omega arith)
one_if_within false c more = omega arith

-- a test that more numbers pass counts no less
pub count_more : (n : ℕ) (p q : ℕ → Bool) → ((k : ℕ) → k < n → p k ≡ true → q k ≡ true) → count_below n p ≤ count_below n q
count_more zero p q more = omega arith
count_more (suc n) p q more = omega (arith, count_more n p q (λ k less. more k (omega arith)), one_if_within (p n) (q n) (more n (omega arith)))

pub count_same : (n : ℕ) (p q : ℕ → Bool) → ((k : ℕ) → k < n → p k ≡ q k) → count_below n p ≡ count_below n q
count_same zero p q same = refl
count_same (suc n) p q same = rw (count_same n p q (λ k less. same k (omega arith)), same n (omega arith)) refl

-- a test that none passes counts nothing
pub count_none : (n : ℕ) (p : ℕ → Bool) → ((k : ℕ) → k < n → p k ≡ false) → count_below n p ≡ 0
count_none zero p none = refl
count_none (suc n) p none = rw (count_none n p (λ k less. none k (omega arith)), none n (omega arith)) refl

one_if_most : (b : Bool) → (if b then 1 else 0) ≤ 1
one_if_most true = omega arith
one_if_most false = omega arith

pub count_most : (n : ℕ) (p : ℕ → Bool) → count_below n p ≤ n
count_most zero p = omega arith
count_most (suc n) p = omega (arith, count_most n p, one_if_most (p n))

-- ---- sums

-- sums of terms that are alike
pub sum_alike : (n : ℕ) (f g : ℕ → ℕ) → ((k : ℕ) → k < n → g k ≡ f k) → sum_below n g ≡ sum_below n f
sum_alike zero f g alike = refl
sum_alike (suc n) f g alike = rw (sum_alike n f g (λ k less. alike k (omega arith)), alike n (omega arith)) refl

-- a sum of nothing
pub sum_zero : (n : ℕ) (f : ℕ → ℕ) → ((k : ℕ) → k < n → f k ≡ 0) → sum_below n f ≡ 0
sum_zero zero f none = refl
sum_zero (suc n) f none = rw (sum_zero n f (λ k less. none k (omega arith)), none n (omega arith)) refl

-- sums that differ in one term
pub sum_with : (n : ℕ) (f g : ℕ → ℕ) (j d : ℕ) → j < n → g j ≡ f j + d → ((k : ℕ) → k ≢ j → g k ≡ f k) → sum_below n g ≡ sum_below n f + d
sum_with zero f g j d less here alike = absurd (omega arith)
sum_with (suc n) f g j d less here alike = elim (cases_lt j n) [
  | inl before ↦
      let apart : n ≢ j = omega arith in
      omega (arith, sum_with n f g j d before here alike, alike n apart)
  | inr at ↦
      let same : j ≡ n = omega arith in
      let there : g n ≡ f n + d = subst (λ k. g k ≡ f k + d) same here in
      omega (arith, there, sum_alike n f g (λ k (below : k < n). alike k (let apart : k ≢ j = omega arith in apart)))
]

-- ---- joined lists

pub join_same : (n : ℕ) (f g : ℕ → List ℕ) → ((k : ℕ) → k < n → f k ≡ g k) → join_below n f ≡ join_below n g
join_same zero f g same = refl
join_same (suc n) f g same = rw (join_same n f g (λ k less. same k (omega arith)), same n (omega arith)) refl

-- ---- the numbers that pass

one_or_none : (b : Bool) (n : ℕ) → length (if b then n ∷ [] else []) ≡ (if b then 1 else 0)
one_or_none true n = refl
one_or_none false n = refl

-- there are as many as are counted
pub length_which : (n : ℕ) (p : ℕ → Bool) → length (which_below n p) ≡ count_below n p
unfolding which_below
length_which zero p = refl
length_which (suc n) p = omega (arith, length-append (which_below n p) (if p n then n ∷ [] else []), length_which n p, one_or_none (p n) n)

-- ---- which numbers pass

-- the number is below n and passes
pub record IsPassing (n : ℕ) (p : ℕ → Bool) (x : ℕ) : Type 0 where
  pub below : x < n
  pub passes : p x ≡ true

-- those that pass below n pass below n + 1
pass_later : (n : ℕ) (p : ℕ → Bool) (xs : List ℕ) → All (IsPassing n p) xs → All (IsPassing (suc n) p) xs
pass_later n p xs are k d lt = let h = are k d lt in record { below = omega (arith, h.below); passes = h.passes }

-- each of them passes
pub which_pass : (n : ℕ) (p : ℕ → Bool) → All (IsPassing n p) (which_below n p)
unfolding which_below
which_pass zero p = λ k d lt. absurd (omega arith)
which_pass (suc n) p = elim (p n) as (λ b. p n ≡ b → All (IsPassing (suc n) p) (which_below n p ++ (if b then n ∷ [] else []))) [
  | true ↦ λ e. All-push (IsPassing (suc n) p) (which_below n p) n (pass_later n p (which_below n p) (which_pass n p)) (record { below = omega arith; passes = e })
  | false ↦ λ e. subst (All (IsPassing (suc n) p)) (sym (append-nil (which_below n p))) (pass_later n p (which_below n p) (which_pass n p))
] refl

-- no two of them are equal
pub which_differ : (n : ℕ) (p : ℕ → Bool) → AllPairs (λ x y. x ≢ y) (which_below n p)
unfolding which_below
which_differ zero p = λ i j d less lt. absurd (omega arith)
which_differ (suc n) p = elim (p n) as (λ b. AllPairs (λ x y. x ≢ y) (which_below n p ++ (if b then n ∷ [] else []))) [
  | true ↦ all_pairs_push (λ x y. x ≢ y) (which_below n p) n (which_differ n p) (λ k d lt. let h = which_pass n p k d lt in λ same. absurd (omega (arith, h.below, same)))
  | false ↦ subst (AllPairs (λ x y. x ≢ y)) (sym (append-nil (which_below n p))) (which_differ n p)
]

-- each number that passes stands among them
pub record StandsIn (xs : List ℕ) (x : ℕ) : Type 0 where
  pub at : ℕ
  pub within : at < length xs
  pub is : get_or xs at 0 ≡ x

stands_later : (xs ys : List ℕ) (x : ℕ) → StandsIn xs x → StandsIn (xs ++ ys) x
stands_later xs ys x s = record {
  at = s.at;
  within = omega (arith, s.within, length-append xs ys);
  is = get_or-append xs ys 0 s.at s.within ∙ s.is;
}

stands_last : (xs : List ℕ) (x : ℕ) → StandsIn (xs ++ x ∷ []) x
stands_last xs x = record {
  at = length xs;
  within = omega (arith, length-append xs (x ∷ []));
  is = get_or-append_seam xs x [] 0;
}

pub which_has : (n : ℕ) (p : ℕ → Bool) (x : ℕ) → x < n → p x ≡ true → StandsIn (which_below n p) x
unfolding which_below
which_has zero p x less passes = absurd (omega arith)
which_has (suc n) p x less passes = elim (cases_lt x n) [
  | inl below ↦ stands_later (which_below n p) (if p n then n ∷ [] else []) x (which_has n p x below passes)
  | inr at ↦
      let same : x ≡ n = omega arith in
      let here : p n ≡ true = ap p (sym same) ∙ passes in
      subst (λ b. StandsIn (which_below n p ++ (if b then n ∷ [] else [])) x) (sym here)
      (subst (StandsIn (which_below n p ++ n ∷ [])) (sym same) (stands_last (which_below n p) n))
]
