-- Digits and their values, digit by digit.
use Rattle.std.proofs.Common.{◌≡◌, ℕ, ◌-◌, ◌*◌, ◌+◌, ◌≤◌, ◌<◌, true, List, [], ◌∷◌, arith}
use Rattle.std.specs.Char.{is_ascii_digit, digit_value}
use Rattle.std.specs.Str.Parse.{digits_value_after}
use Rattle.std.proofs.lemmas.Bool.Decides.{nat_tests}
use Rattle.std.proofs.lemmas.Str.Parse.{digit_from_value}

-- the value of a digit
pub digit_is : (x : ℕ) → is_ascii_digit x ≡ true → digit_value x ≡ x - 48
digit_is x h = grind (arith, nat_tests)

-- further digits don't make a number less
pub digits_grow : (v : ℕ) (ds : List ℕ) → v ≤ digits_value_after 10 v ds
digits_grow v [] = omega arith
digits_grow v (d ∷ ds) = omega (arith, digits_grow (v * 10 + digit_value d) ds)

-- a byte with a digit's value is a digit
pub is_digit_of : (d : ℕ) → digit_value d < 10 → is_ascii_digit d ≡ true
is_digit_of d h = let r = digit_from_value d h in grind (arith, nat_tests)
