-- Numbers in fields and lists: one ASCII digit or more. Zeros may lead, and there may be any number of digits.
use Rattle.std.specs.Prelude.{◌≡◌, ℕ, ◌==◌, ◌&&◌, not, nat_lt, Bool, if◌then◌else◌, List, Option, Some, None}
use Rattle.std.specs.Str.{all_ascii_digits}
use Rattle.std.specs.Str.Parse.{IsNumeral, digits_value}
use Rattle.meta_text.specs.Text.{is_empty}

-- the text writes the number
pub record IsNumber (text : List ℕ) (n : ℕ) : Type 0 where
  pub digits : IsNumeral 10 text
  pub value : digits_value 10 text ≡ n

-- the text is a number
abbrev pub is_number : List ℕ → Bool
is_number text = not (is_empty text) && all_ascii_digits text

-- the text writes this number
unfoldable pub writes_number : List ℕ → ℕ → Bool
writes_number text n = is_number text && (digits_value 10 text == n)

-- the number that the text writes, where it is one below the bound
unfoldable pub number_below : ℕ → List ℕ → Option ℕ
number_below bound text = if is_number text && nat_lt (digits_value 10 text) bound then Some (digits_value 10 text) else None
