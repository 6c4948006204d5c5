-- A list without repeats, to which elements are added one after another.
use Rattle.std.specs.Prelude.{◌≡◌, Bool, true, if◌then◌else◌, List, [], ◌∷◌, ◌++◌}
use Rattle.std.specs.List.{list_any}

-- an element more, unless the same one is there
abbrev pub added : {X : Type 0} → (X → X → Bool) → List X → X → List X
added same kept x = if list_any (same x) kept then kept else kept ++ x ∷ []

abbrev pub added_all : {X : Type 0} → (X → X → Bool) → List X → List X → List X
added_all same kept [] = kept
added_all same kept (x ∷ xs) = added_all same (added same kept x) xs

-- what is the same as the same is the same
abbrev pub IsTransitive : {X : Type 0} → (X → X → Bool) → Type 0
IsTransitive {X} same = (a b c : X) → same a b ≡ true → same b c ≡ true → same a c ≡ true
