-- A test of all numbers below a bound, which computes.
use Rattle.std.proofs.Common.{◌≡◌, ℕ, zero, suc, ◌<◌, Bool, true, ◌&&◌, subst, inl, inr, arith}
use Rattle.std.proofs.lemmas.Bool.{and_parts, cases_lt}

-- each number below n passes
unfoldable pub each_below : ℕ → (ℕ → Bool) → Bool
each_below zero p = true
each_below (suc n) p = p n && each_below n p

-- each pair of numbers below n passes
unfoldable pub each_pair_below : ℕ → (ℕ → ℕ → Bool) → Bool
each_pair_below n p = each_below n (λ a. each_below n (p a))

-- what all pass, each passes
pub passes_at : (n : ℕ) (p : ℕ → Bool) → each_below n p ≡ true → (a : ℕ) → a < n → p a ≡ true
unfolding each_below
passes_at zero p all a less = absurd (omega arith)
passes_at (suc n) p all a less =
    let parts : (p n ≡ true) × (each_below n p ≡ true) = and_parts _ _ all in
    elim (cases_lt a n) [
      | inl below ↦ passes_at n p parts.1 a below
      | inr at ↦ let same : n ≡ a = omega arith in subst (λ (x : ℕ). p x ≡ true) same parts.0
    ]

-- what all pairs pass, each pair passes
pub passes_at_pair : (n : ℕ) (p : ℕ → ℕ → Bool) → each_pair_below n p ≡ true → (a b : ℕ) → a < n → b < n → p a b ≡ true
unfolding each_pair_below
passes_at_pair n p all a b la lb = passes_at n (p a) (passes_at n (λ x. each_below n (p x)) all a la) b lb
