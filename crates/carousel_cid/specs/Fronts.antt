-- The front of a list of identifiers.
use Rattle.std.specs.Prelude.{ℕ, List, [], ◌∷◌, Option, Some, None}

abbrev pub first_of : List ℕ → Option ℕ
first_of [] = None
first_of (t ∷ ts) = Some t

abbrev pub after_first : List ℕ → List ℕ
after_first [] = []
after_first (t ∷ ts) = ts
