-- The sum of elements, `bit_xor`.
use Rattle.std.proofs.Common.{◌≡◌, ℕ, ◌<◌, Bool, true, false, cond, refl, sym, ap, ◌∙◌, arith}
use Rattle.std.specs.Prelude.{bit_xor}
use Rattle.std.specs.Int.Bits.{xor_assoc, xor_self, xor_zero_l, xor_zero_r}
use Rattle.std.proofs.lemmas.Nat.{xor_comm, xor_lt}

-- a sum of elements is an element
pub sum_lt : (a b : ℕ) → a < 256 → b < 256 → bit_xor a b < 256
sum_lt a b la lb = xor_lt 8 a b la lb

-- four terms, the middle ones exchanged
pub sum_swap : (a b c d : ℕ) → bit_xor (bit_xor a b) (bit_xor c d) ≡ bit_xor (bit_xor a c) (bit_xor b d)
sum_swap a b c d =
    let inner : bit_xor b (bit_xor c d) ≡ bit_xor c (bit_xor b d) =
    sym (xor_assoc b c d) ∙ ap (λ t. bit_xor t d) (xor_comm b c) ∙ xor_assoc c b d
    in
    xor_assoc a b (bit_xor c d) ∙ ap (λ t. bit_xor a t) inner ∙ sym (xor_assoc a c (bit_xor b d))

-- what is added twice is gone
pub sum_twice : (a b : ℕ) → bit_xor a (bit_xor a b) ≡ b
sum_twice a b = sym (xor_assoc a a b) ∙ ap (λ t. bit_xor t b) (xor_self a) ∙ xor_zero_l b

-- elements whose sum is zero are equal
pub equal_from_sum : (a b : ℕ) → bit_xor a b ≡ 0 → a ≡ b
equal_from_sum a b null = sym (xor_zero_r a) ∙ ap (λ t. bit_xor a t) (sym null) ∙ sum_twice a b

-- a term or none is an element
pub cond_lt : (t : Bool) (a : ℕ) → a < 256 → cond t a 0 < 256
cond_lt true a less = less
cond_lt false a less = omega arith

-- a choice of a sum is the sum of the choices
pub cond_sum : (t : Bool) (a b : ℕ) → cond t (bit_xor a b) 0 ≡ bit_xor (cond t a 0) (cond t b 0)
cond_sum true a b = refl
cond_sum false a b = refl
