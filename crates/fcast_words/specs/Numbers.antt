-- The number that an option's value spells.
use Rattle.std.specs.Prelude.{◌&&◌, Bool, ℕ, List, length, Option, Some, None, if◌then◌else◌}
use Rattle.std.specs.Prelude.{nat_le}
use Rattle.std.specs.Char.{is_ascii_digit}
use Rattle.std.specs.List.{list_all}
use Rattle.std.specs.Str.Parse.{digits_value}

-- 1 to 20 ASCII digits
abbrev pub is_numeral : List ℕ → Bool
is_numeral text = nat_le 1 (length text) && (nat_le (length text) 20 && list_all is_ascii_digit text)

abbrev pub is_in : ℕ → ℕ → ℕ → Bool
is_in least greatest n = nat_le least n && nat_le n greatest

-- the number that a numeral spells, where it is in the range; leading zeros are read
abbrev pub number_in : ℕ → ℕ → List ℕ → Option ℕ
number_in least greatest text =
    if is_numeral text && is_in least greatest (digits_value 10 text)
    then Some (digits_value 10 text) else None

-- the same, with a value where there is no text
abbrev pub number_or : ℕ → ℕ → Option ℕ → Option (List ℕ) → Option ℕ
number_or least greatest default None = default
number_or least greatest default (Some text) = number_in least greatest text
