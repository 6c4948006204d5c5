-- The shape of words, tested from the front.
use Rattle.std.specs.Prelude.{◌&&◌, ◌||◌, Bool, true, false, not, List, [], ◌∷◌}
use Rattle.std.specs.Str.{bytes_eq}
use Rattle.fcast_words.specs.Pairs.{Text, is_value}
use Rattle.fcast_words.specs.Shape.{is_name}

-- every second word, from the first on, is searched
abbrev pub has_name : Text → List Text → Bool
has_name n [] = false
has_name n (m ∷ []) = bytes_eq m n
has_name n (m ∷ v ∷ rest) = bytes_eq m n || has_name n rest

abbrev pub scan : List Text → Bool
scan [] = true
scan (n ∷ []) = false
scan (n ∷ v ∷ rest) = is_name n && (is_value v && (not (has_name n rest) && scan rest))
