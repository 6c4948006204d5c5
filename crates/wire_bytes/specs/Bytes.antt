-- Bytes, and lists of them.
use Rattle.std.specs.Prelude.{ℕ, ◌<◌, ◌-◌, ◌==◌, Bool, List, ◌++◌, length, replicate, All}
use Rattle.std.specs.List.{list_all}

-- the number is one of a byte
abbrev pub IsByte : ℕ → Type 0
IsByte a = a < 256

-- each number is one of a byte
abbrev pub AreBytes : List ℕ → Type 0
AreBytes xs = All IsByte xs

-- each byte is zero
abbrev pub are_zero : List ℕ → Bool
are_zero xs = list_all (λ x. x == 0) xs

-- the bytes, and zeros behind them to so many bytes in all
unfoldable pub zero_filled : ℕ → List ℕ → List ℕ
zero_filled size xs = xs ++ replicate (size - length xs) 0
