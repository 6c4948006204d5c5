-- An address, read number by number.
use Rattle.std.specs.Prelude.{ℕ, List, [], ◌∷◌, Option, None, if◌then◌else◌, option_and_then}
use Rattle.std.specs.Prelude.{option_map}
use Rattle.std.specs.List.{list_any, before_first, after_first}
use Rattle.fcast_words.specs.Pairs.{Text}
use Rattle.fcast_words.specs.Addresses.{is_dot, byte_of}

-- the number before the first dot, and what follows the dot
abbrev pub byte_and_rest : Text → Option (ℕ × Text)
byte_and_rest text =
    if list_any is_dot text
    then option_map (λ byte. (byte, after_first is_dot text)) (byte_of (before_first is_dot text))
    else None

abbrev pub last_byte : Text → Option (List ℕ)
last_byte text = option_map (λ byte. byte ∷ []) (byte_of text)

-- a number, a dot, and what is read behind it
abbrev pub byte_then : (Text → Option (List ℕ)) → Text → Option (List ℕ)
byte_then next text =
    option_and_then (λ a. option_map (λ bytes. a.0 ∷ bytes) (next a.1)) (byte_and_rest text)

abbrev pub four_bytes : Text → Option (List ℕ)
four_bytes = byte_then (byte_then (byte_then last_byte))
