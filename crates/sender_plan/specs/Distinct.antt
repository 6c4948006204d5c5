-- Lists without repeats, where a test says which elements are the same.
use Rattle.std.specs.Prelude.{Bool, not, List, [], ◌∷◌, filter}

-- each element at its first place alone
abbrev pub distinct : {X : Type 0} → (X → X → Bool) → List X → List X
distinct same [] = []
distinct same (x ∷ xs) = x ∷ filter (λ y. not (same y x)) (distinct same xs)
