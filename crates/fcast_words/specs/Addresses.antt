-- The IPv4 address that an option's value spells.
use Rattle.std.specs.Prelude.{◌==◌, Bool, ℕ, zero, suc, List, [], ◌∷◌, length, Option, Some, None}
use Rattle.std.specs.Prelude.{if◌then◌else◌, nat_le, option_and_then, option_map}
use Rattle.std.specs.List.{slice_split}
use Rattle.fcast_words.specs.Pairs.{Text}
use Rattle.fcast_words.specs.Numbers.{number_in}

-- `.`
abbrev pub is_dot : ℕ → Bool
is_dot b = b == 46

-- a number of 1 to 3 digits up to 255
abbrev pub byte_of : Text → Option ℕ
byte_of text = if nat_le (length text) 3 then number_in 0 255 text else None

-- n texts, each of them such a number
abbrev pub bytes_of : ℕ → List Text → Option (List ℕ)
bytes_of zero [] = Some []
bytes_of zero (text ∷ texts) = None
bytes_of (suc n) [] = None
bytes_of (suc n) (text ∷ texts) =
    option_and_then (λ byte. option_map (λ bytes. byte ∷ bytes) (bytes_of n texts)) (byte_of text)

-- four such numbers, joined by dots
abbrev pub address_of : Text → Option (List ℕ)
address_of text = bytes_of 4 (slice_split is_dot text)
