-- The count of steps, row by row.
use Rattle.std.proofs.Common.{◌≡◌, ℕ, Bool, true, false, ◌+◌, ◌-◌, ◌*◌, ◌^◌, List, min, cond, eqb, sym, ap, ◌∙◌, arith, add-one}
use Rattle.std.specs.List.{list_any}
use Rattle.rs_solve.specs.Solution.{missing_below}

-- one row more is settled: k steps, if it is missing
more_by : (t : Bool) (before k old now next : ℕ) → now ≡ min (old + before * k) (2 ^ 64 - 1) → next ≡ cond t now (min (now + k) (2 ^ 64 - 1))
    → next ≡ min (old + (before + cond t 0 1) * k) (2 ^ 64 - 1)
more_by true before k old now next is more = let same : (before + 0) * k ≡ before * k = omega arith in omega arith
more_by false before k old now next is more = let same : (before + 1) * k ≡ before * k + k = omega arith in omega arith

pub more_missing : (places : List ℕ) (m k old now next : ℕ) → now ≡ min (old + missing_below places m * k) (2 ^ 64 - 1)
    → next ≡ cond (list_any (λ p. eqb p m) places) now (min (now + k) (2 ^ 64 - 1)) → next ≡ min (old + missing_below places (m + 1) * k) (2 ^ 64 - 1)
more_missing places m k old now next is more =
    more_by (list_any (λ p. eqb p m) places) (missing_below places m) k old now next is more
    ∙ ap (λ n. min (old + missing_below places n * k) (2 ^ 64 - 1)) (sym (add-one m))
