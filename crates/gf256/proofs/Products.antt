-- The product of elements: from what `Tables` tests, the laws of a field.
use Rattle.std.proofs.Common.{◌≡◌, ◌≢◌, ◌⊎◌, ℕ, zero, suc, ◌<◌, ◌/◌, ◌%◌, Bool, true, false, cond, ◌||◌, eqb, ltb, refl, sym, ap}
use Rattle.std.proofs.Common.{ap₂, ◌∙◌, inl, inr, ⊎_elim, arith, eqb-true, ltb-true}
use Rattle.std.specs.Prelude.{bit_xor}
use Rattle.std.proofs.lemmas.Bool.{or_cases, cases_eq}
use Rattle.gf256.specs.Field.{double, product, product_of, squares, inverse}
use Rattle.gf256.proofs.Finite.{passes_at, passes_at_pair}
use Rattle.gf256.proofs.Sums.{sum_lt, sum_swap, cond_lt, cond_sum}
use Rattle.gf256.proofs.Tables.{double_lt_tested, double_sum_tested, product_comm_tested, product_one_tested, product_zero_tested, inverse_tested}

-- the double of an element is an element
pub double_lt : (a : ℕ) → a < 256 → double a < 256
double_lt a la = ltb-true _ _ (passes_at 256 (λ a. ltb (double a) 256) double_lt_tested a la)

-- the double of a sum
pub double_sum : (a b : ℕ) → a < 256 → b < 256 → double (bit_xor a b) ≡ bit_xor (double a) (double b)
double_sum a b la lb = eqb-true _ _ (passes_at_pair 256 (λ a b. eqb (double (bit_xor a b)) (bit_xor (double a) (double b))) double_sum_tested a b la lb)

-- the order of two factors is free
pub product_comm : (a b : ℕ) → a < 256 → b < 256 → product a b ≡ product b a
product_comm a b la lb = eqb-true _ _ (passes_at_pair 256 (λ a b. eqb (product a b) (product b a)) product_comm_tested a b la lb)

-- 1 is neutral
pub product_one : (a : ℕ) → a < 256 → product a 1 ≡ a
product_one a la = eqb-true _ _ (passes_at 256 (λ a. eqb (product a 1) a) product_one_tested a la)

-- 1 is neutral, on the left
pub one_product : (a : ℕ) → a < 256 → product 1 a ≡ a
one_product a la = product_comm 1 a (omega arith) la ∙ product_one a la

-- a product with zero
pub product_zero : (a : ℕ) → a < 256 → product a 0 ≡ 0
product_zero a la = eqb-true _ _ (passes_at 256 (λ a. eqb (product a 0) 0) product_zero_tested a la)

-- a product with zero, on the left
pub zero_product : (a : ℕ) → a < 256 → product 0 a ≡ 0
zero_product a la = product_comm 0 a (omega arith) la ∙ product_zero a la

-- the terms of n bits sum to an element
product_of_lt : (n a b : ℕ) → a < 256 → product_of n a b < 256
unfolding product_of
product_of_lt zero a b la = omega arith
product_of_lt (suc n) a b la = sum_lt _ _ (cond_lt (eqb (b % 2) 1) a la) (product_of_lt n (double a) (b / 2) (double_lt a la))

-- a product of elements is an element
pub product_lt : (a b : ℕ) → a < 256 → product a b < 256
unfolding product
product_lt a b la = product_of_lt 8 a b la

-- the terms of n bits of a sum
product_of_sum : (n a b c : ℕ) → a < 256 → b < 256 → product_of n (bit_xor a b) c ≡ bit_xor (product_of n a c) (product_of n b c)
unfolding product_of
product_of_sum zero a b c la lb = refl
product_of_sum (suc n) a b c la lb =
    let t = eqb (c % 2) 1 in
    ap₂ bit_xor (cond_sum t a b)
    (ap (λ d. product_of n d (c / 2)) (double_sum a b la lb)
    ∙ product_of_sum n (double a) (double b) (c / 2) (double_lt a la) (double_lt b lb))
    ∙ sum_swap (cond t a 0) (cond t b 0) _ _

-- a product distributes over a sum on the left
pub sum_product : (a b c : ℕ) → a < 256 → b < 256 → product (bit_xor a b) c ≡ bit_xor (product a c) (product b c)
unfolding product
sum_product a b c la lb = product_of_sum 8 a b c la lb

-- a product distributes over a sum on the right
pub product_sum : (a b c : ℕ) → a < 256 → b < 256 → c < 256 → product a (bit_xor b c) ≡ bit_xor (product a b) (product a c)
product_sum a b c la lb lc =
    product_comm a (bit_xor b c) la (sum_lt b c lb lc)
    ∙ sum_product b c a lb lc
    ∙ ap₂ bit_xor (product_comm b a lb la) (product_comm c a lc la)

-- a choice of the double is the double of the choice
double_cond : (t : Bool) (a : ℕ) → cond t (double a) 0 ≡ double (cond t a 0)
unfolding double
double_cond true a = refl
double_cond false a = refl

-- the terms of n bits of a double
product_of_double : (n a b : ℕ) → a < 256 → product_of n (double a) b ≡ double (product_of n a b)
unfolding product_of double
product_of_double zero a b la = refl
product_of_double (suc n) a b la =
    ap₂ bit_xor (double_cond (eqb (b % 2) 1) a) (product_of_double n (double a) (b / 2) (double_lt a la))
    ∙ sym (double_sum _ _ (cond_lt (eqb (b % 2) 1) a la) (product_of_lt n (double a) (b / 2) (double_lt a la)))

-- the double of a factor
pub double_product : (a b : ℕ) → a < 256 → product (double a) b ≡ double (product a b)
unfolding product
double_product a b la = product_of_double 8 a b la

-- the double of the other factor
pub product_double : (a b : ℕ) → a < 256 → b < 256 → product a (double b) ≡ double (product a b)
product_double a b la lb =
    product_comm a (double b) la (double_lt b lb) ∙ double_product b a lb ∙ ap double (product_comm b a lb la)

-- a choice of the product is the product with the choice
product_cond : (t : Bool) (a b : ℕ) → a < 256 → cond t (product a b) 0 ≡ product a (cond t b 0)
product_cond true a b la = refl
product_cond false a b la = sym (product_zero a la)

-- the terms of n bits of a product
product_of_assoc : (n a b c : ℕ) → a < 256 → b < 256 → product_of n (product a b) c ≡ product a (product_of n b c)
unfolding product_of
product_of_assoc zero a b c la lb = sym (product_zero a la)
product_of_assoc (suc n) a b c la lb =
    ap₂ bit_xor (product_cond (eqb (c % 2) 1) a b la)
    (ap (λ d. product_of n d (c / 2)) (sym (product_double a b la lb))
    ∙ product_of_assoc n a (double b) (c / 2) la (double_lt b lb))
    ∙ sym (product_sum a _ _ la (cond_lt (eqb (c % 2) 1) b lb) (product_of_lt n (double b) (c / 2) (double_lt b lb)))

-- the grouping of three factors is free
pub product_assoc : (a b c : ℕ) → a < 256 → b < 256 → product (product a b) c ≡ product a (product b c)
unfolding product
product_assoc a b c la lb = product_of_assoc 8 a b c la lb

-- an element that is not zero has an inverse
pub product_inverse : (a : ℕ) → a < 256 → a ≢ 0 → product a (inverse a) ≡ 1
product_inverse a la some =
    ⊎_elim (λ null. absurd (some (eqb-true a 0 null))) (λ one. eqb-true _ _ one)
    (or_cases _ _ (passes_at 256 (λ a. eqb a 0 || eqb (product a (inverse a)) 1) inverse_tested a la))

-- a product of squares is an element
squares_lt : (n a : ℕ) → a < 256 → squares n a < 256
unfolding squares
squares_lt zero a la = omega arith
squares_lt (suc n) a la = product_lt _ _ (squares_lt n a la)

-- the inverse is an element
pub inverse_lt : (a : ℕ) → a < 256 → inverse a < 256
unfolding inverse
inverse_lt a la = squares_lt 7 a la

-- a factor that is not zero cancels
pub product_cancel : (a b c : ℕ) → a < 256 → b < 256 → c < 256 → a ≢ 0 → product a b ≡ product a c → b ≡ c
product_cancel a b c la lb lc some same =
    let back : (d : ℕ) → d < 256 → product (inverse a) (product a d) ≡ d =
    λ d ld. sym (product_assoc (inverse a) a d (inverse_lt a la) la)
    ∙ ap (λ t. product t d) (product_comm (inverse a) a (inverse_lt a la) la ∙ product_inverse a la some)
    ∙ one_product d ld
    in
    sym (back b lb) ∙ ap (product (inverse a)) same ∙ back c lc

-- the inverse is the only element whose product with the element is 1
pub inverse_unique : (a b : ℕ) → a < 256 → b < 256 → a ≢ 0 → product a b ≡ 1 → b ≡ inverse a
inverse_unique a b la lb some one =
    product_cancel a b (inverse a) la lb (inverse_lt a la) some (one ∙ sym (product_inverse a la some))

-- there are no divisors of zero
pub no_divisors : (a b : ℕ) → a < 256 → b < 256 → product a b ≡ 0 → (a ≡ 0) ⊎ (b ≡ 0)
no_divisors a b la lb null =
    ⊎_elim (λ is. inl is) (λ some. inr (product_cancel a b 0 la lb (omega arith) some (null ∙ sym (product_zero a la)))) (cases_eq a 0)

-- a product of elements that are not zero is not zero
pub product_some : (a b : ℕ) → a < 256 → b < 256 → a ≢ 0 → b ≢ 0 → product a b ≢ 0
product_some a b la lb sa sb null = ⊎_elim sa sb (no_divisors a b la lb null)

-- a factor of 1 is not zero
pub some_factor : (a b : ℕ) → b < 256 → product a b ≡ 1 → a ≢ 0
some_factor a b lb one null =
    let is : product a b ≡ 0 = ap (λ (t : ℕ). product t b) null ∙ zero_product b lb in omega arith
