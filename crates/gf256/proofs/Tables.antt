-- Facts over all elements, tested by computing. Each stands here once; the laws cite them.
use Rattle.std.proofs.Common.{◌≡◌, true, not, ◌||◌, eqb, ltb, refl}
use Rattle.std.specs.Prelude.{bit_xor}
use Rattle.gf256.specs.Field.{double, product, product_of, squared, squares, inverse}
use Rattle.gf256.specs.Polynomial.{power}
use Rattle.gf256.proofs.Finite.{each_below, each_pair_below}

-- each double is an element
pub double_lt_tested : each_below 256 (λ a. ltb (double a) 256) ≡ true
unfolding each_below double
double_lt_tested = refl

-- only zero has the double zero
pub double_null_tested : each_below 256 (λ a. eqb a 0 || not (eqb (double a) 0)) ≡ true
unfolding each_below double
double_null_tested = refl

-- the double of each sum is the sum of the doubles
pub double_sum_tested : each_pair_below 256 (λ a b. eqb (double (bit_xor a b)) (bit_xor (double a) (double b))) ≡ true
unfolding each_below each_pair_below double
double_sum_tested = refl

-- each product is the same in the other order
pub product_comm_tested : each_pair_below 256 (λ a b. eqb (product a b) (product b a)) ≡ true
unfolding each_below each_pair_below double product_of product
product_comm_tested = refl

-- each product with 1 is the element
pub product_one_tested : each_below 256 (λ a. eqb (product a 1) a) ≡ true
unfolding each_below double product_of product
product_one_tested = refl

-- each product with zero is zero
pub product_zero_tested : each_below 256 (λ a. eqb (product a 0) 0) ≡ true
unfolding each_below double product_of product
product_zero_tested = refl

-- each element but zero times its power 254 is 1
pub inverse_tested : each_below 256 (λ a. eqb a 0 || eqb (product a (inverse a)) 1) ≡ true
unfolding each_below double product_of product squared squares inverse
inverse_tested = refl

-- no power below 255 but the first is 1
pub order_tested : each_below 255 (λ j. eqb j 0 || not (eqb (power j) 1)) ≡ true
unfolding each_below double power
order_tested = refl

-- the power 255 is 1
pub power_255 : power 255 ≡ 1
unfolding double power
power_255 = refl
