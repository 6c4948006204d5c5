-- One's complement sums.
use Rattle.std.proofs.Common.{◌≡◌, ℕ, zero, suc, ◌+◌, ◌-◌, ◌/◌, ◌%◌, ◌≤◌, refl, ◌∙◌, arith}
use Rattle.std.proofs.lemmas.Bool.Decides.{nat_tests}
use Rattle.compound_object.specs.Checksum.{ones_sum, IsOnesSum}

-- a sum of 16 bits is its own
pub ones_sum_small : (n : ℕ) → n ≤ 65535 → ones_sum n ≡ n
ones_sum_small n le = grind (arith, nat_tests)

pos_ones_sum : (n : ℕ) → ones_sum (suc n) ≡ n % 65535 + 1
pos_ones_sum n = grind (arith, nat_tests)

pub equal-from_IsOnesSum : (plain ones : ℕ) → IsOnesSum plain ones → ones ≡ ones_sum plain
equal-from_IsOnesSum zero ones is = is.none refl
equal-from_IsOnesSum (suc n) ones is =
    let range = is.some (omega arith) in
    let k = is.differs.0 in
    let rest : n % 65535 ≡ ones - 1 = omega (arith, is.differs.1, range.0, range.1) in
    omega (arith, pos_ones_sum n, range.0)

pub IsOnesSum-from_equal : (plain ones : ℕ) → ones ≡ ones_sum plain → IsOnesSum plain ones
IsOnesSum-from_equal zero ones is = record { none = λ e. is; some = λ lt. absurd (omega arith); differs = (0, omega arith) }
IsOnesSum-from_equal (suc n) ones is =
    let value : ones ≡ n % 65535 + 1 = is ∙ pos_ones_sum n in
    record { none = λ e. absurd (omega arith); some = λ lt. (omega arith, omega arith); differs = (n / 65535, omega arith) }
