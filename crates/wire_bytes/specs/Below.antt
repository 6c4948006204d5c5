-- Counts, sums and joined lists over the numbers below a bound.
use Rattle.std.specs.Prelude.{ℕ, zero, suc, ◌+◌, Bool, true, ◌&&◌, if◌then◌else◌, List, [], ◌∷◌, ◌++◌, map}
use Rattle.std.specs.List.{range_with_len}

-- how many numbers below n pass the test
abbrev pub count_below : ℕ → (ℕ → Bool) → ℕ
count_below zero p = 0
count_below (suc n) p = count_below n p + (if p n then 1 else 0)

-- f 0 + f 1 + .. + f (n - 1)
abbrev pub sum_below : ℕ → (ℕ → ℕ) → ℕ
sum_below zero f = 0
sum_below (suc n) f = sum_below n f + f n

-- each number below n passes the test
abbrev pub all_below : ℕ → (ℕ → Bool) → Bool
all_below zero p = true
all_below (suc n) p = all_below n p && p n

-- f 0, f 1, .., f (n - 1), one after the other
abbrev pub join_below : ℕ → (ℕ → List ℕ) → List ℕ
join_below zero f = []
join_below (suc n) f = join_below n f ++ f n

-- the numbers below n that pass the test, in order
unfoldable pub which_below : ℕ → (ℕ → Bool) → List ℕ
which_below n p = join_below n (λ j. if p j then j ∷ [] else [])

-- f 0, f 1, .., f (n - 1)
abbrev pub list_below : {A : Type 0} → ℕ → (ℕ → A) → List A
list_below n f = map f (range_with_len 0 n)
