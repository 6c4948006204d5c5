-- Lists of identifiers without repeats.
use Rattle.std.specs.Prelude.{ℕ, Bool, true, not, ◌&&◌, ◌==◌, List, [], ◌∷◌, filter}
use Rattle.std.specs.List.{list_any}

-- no identifier stands twice
abbrev pub are_different : List ℕ → Bool
are_different [] = true
are_different (t ∷ ts) = not (list_any (λ u. u == t) ts) && are_different ts

-- each identifier at its first place alone
abbrev pub first_places : List ℕ → List ℕ
first_places [] = []
first_places (t ∷ ts) = t ∷ filter (λ u. not (u == t)) (first_places ts)
