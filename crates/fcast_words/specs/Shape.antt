-- The shape that the words of every command have.
use Rattle.std.specs.Prelude.{◌==◌, ◌&&◌, Bool, false, not, List, [], ◌∷◌, length, map, is_some}
use Rattle.std.specs.Prelude.{nat_lt, slice_index}
use Rattle.std.specs.List.{list_all, list_any}
use Rattle.std.specs.Option.{option_map_or}
use Rattle.fcast_words.specs.Pairs.{Text, Pairs, pairs_of, is_value, is_once}
use Rattle.fcast_words.specs.Table.{command_named}

-- `--`, at least one byte more, and no `=`
abbrev pub is_name : Text → Bool
is_name word = nat_lt 2 (length word)
    && (slice_index word 0 == 45 && (slice_index word 1 == 45 && not (list_any (λ x. x == 61) word)))

-- names with values, no name twice
abbrev pub are_shaped : Pairs → Bool
are_shaped ps = list_all (λ p. is_name p.0 && is_value p.1) ps && is_once (map (λ p. p.0) ps)

abbrev pub has_shape : List Text → Bool
has_shape words = option_map_or are_shaped (pairs_of words) false

-- a command's word, and names with values behind it
abbrev pub is_line : List Text → Bool
is_line [] = false
is_line (name ∷ words) = is_some (command_named name) && has_shape words
