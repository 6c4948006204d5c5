-- Options and their values as a map.
use Rattle.std.specs.Prelude.{◌==◌, ◌&&◌, ◌||◌, Bool, true, false, not, ℕ, List, [], ◌∷◌, map}
use Rattle.std.specs.Prelude.{Option, Some, None, if◌then◌else◌, option_and_then, option_map, find}
use Rattle.std.specs.List.{list_all, list_any}
use Rattle.std.specs.Str.{bytes_eq}

abbrev pub Text : Type 0
Text = List ℕ

-- options and their values
abbrev pub Pairs : Type 0
Pairs = List (Text × Text)

-- the words, two and two
abbrev pub pairs_of : List Text → Option Pairs
pairs_of [] = Some []
pairs_of (n ∷ []) = None
pairs_of (n ∷ v ∷ rest) = option_map (λ ps. (n, v) ∷ ps) (pairs_of rest)

-- a value isn't empty, and begins with neither `-` nor `+`
abbrev pub is_value : Text → Bool
is_value [] = false
is_value (x ∷ xs) = not (x == 45 || x == 43)

abbrev pub is_among : Text → List Text → Bool
is_among n = list_any (λ m. bytes_eq m n)

-- no name stands twice
abbrev pub is_once : List Text → Bool
is_once [] = true
is_once (n ∷ ns) = not (is_among n ns) && is_once ns

-- the pairs are a map from these options to values
abbrev pub is_map : List Text → Pairs → Bool
is_map options ps = list_all (λ p. is_among p.0 options && is_value p.1) ps
    && is_once (map (λ p. p.0) ps)

-- the map from these options that the words are
abbrev pub map_of : List Text → List Text → Option Pairs
map_of options words =
    option_and_then (λ ps. if is_map options ps then Some ps else None) (pairs_of words)

-- the value of an option
abbrev pub given : Text → Pairs → Option Text
given n ps = option_map (λ p. p.1) (find (λ p. bytes_eq p.0 n) ps)
