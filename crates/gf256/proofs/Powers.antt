-- The powers of alpha: they are elements, they repeat after 255, and not before.
use Rattle.std.proofs.Common.{◌≡◌, ◌≢◌, ℕ, zero, suc, ◌+◌, ◌-◌, ◌*◌, ◌/◌, ◌%◌, ◌<◌, not, ◌||◌, eqb, sym, ap, ◌∙◌, ⊎_elim, arith, eqb-true, eq-eqb, add-zero, add-suc}
use Rattle.std.proofs.lemmas.Bool.{or_cases, cases_order, not-true, both_ways}
use Rattle.gf256.specs.Field.{double, product}
use Rattle.gf256.specs.Polynomial.{power}
use Rattle.gf256.proofs.Finite.{passes_at}
use Rattle.gf256.proofs.Tables.{double_null_tested, order_tested, power_255}
use Rattle.gf256.proofs.Products.{double_lt, product_one, one_product, product_double, product_cancel}

-- a power is an element
pub power_lt : (j : ℕ) → power j < 256
unfolding power
power_lt zero = omega arith
power_lt (suc j) = double_lt (power j) (power_lt j)

-- the double of an element that is not zero is not zero
double_some : (a : ℕ) → a < 256 → a ≢ 0 → double a ≢ 0
double_some a la some null =
    ⊎_elim (λ is. some (eqb-true a 0 is)) (λ no. both_ways _ (not-true _ no) (eq-eqb _ _ null))
    (or_cases _ _ (passes_at 256 (λ a. eqb a 0 || not (eqb (double a) 0)) double_null_tested a la))

-- a power is not zero
pub power_some : (j : ℕ) → power j ≢ 0
unfolding power
power_some zero null = cc
power_some (suc j) null = double_some (power j) (power_lt j) (power_some j) null

-- the power of a sum of exponents
pub power_add : (i j : ℕ) → power (i + j) ≡ product (power i) (power j)
unfolding power
power_add i zero = ap power (add-zero i) ∙ sym (product_one (power i) (power_lt i))
power_add i (suc j) =
    ap power (add-suc i j) ∙ ap double (power_add i j) ∙ sym (product_double (power i) (power j) (power_lt i) (power_lt j))

-- after n times 255 the power is the same
power_rounds : (n r : ℕ) → power (255 * n + r) ≡ power r
power_rounds zero r = let is : 255 * 0 + r ≡ r = omega arith in ap power is
power_rounds (suc n) r =
    let is : 255 * suc n + r ≡ 255 + (255 * n + r) = omega arith in
    ap power is ∙ power_add 255 (255 * n + r) ∙ ap (λ t. product t (power (255 * n + r))) power_255
    ∙ one_product _ (power_lt (255 * n + r)) ∙ power_rounds n r

-- the powers repeat after 255
pub power_mod : (j : ℕ) → power (j % 255) ≡ power j
power_mod j =
    let is : 255 * (j / 255) + j % 255 ≡ j = omega arith in
    sym (power_rounds (j / 255) (j % 255)) ∙ ap power is

-- no power between 0 and 255 is 1
power_not_one : (j : ℕ) → 0 < j → j < 255 → power j ≢ 1
power_not_one j some less one =
    let ne : j ≢ 0 = omega arith in
    ⊎_elim (λ is. ne (eqb-true j 0 is)) (λ no. both_ways _ (not-true _ no) (eq-eqb _ _ one))
    (or_cases _ _ (passes_at 255 (λ j. eqb j 0 || not (eqb (power j) 1)) order_tested j less))

-- a later power below 255 is another
powers_apart : (i j : ℕ) → i < j → j < 255 → power i ≢ power j
powers_apart i j order less same =
    let is : i + (j - i) ≡ j = omega arith in
    power_not_one (j - i) (omega arith) (omega arith)
    (product_cancel (power i) (power (j - i)) 1 (power_lt i) (power_lt (j - i)) (omega arith) (power_some i)
    (sym (power_add i (j - i)) ∙ ap power is ∙ sym same ∙ sym (product_one (power i) (power_lt i))))

-- two powers below 255 are equal only at one exponent
pub power_injective : (i j : ℕ) → i < 255 → j < 255 → power i ≡ power j → i ≡ j
power_injective i j li lj same =
    ⊎_elim (λ is. is)
    (λ apart. absurd (⊎_elim (λ before. powers_apart i j before lj same) (λ after. powers_apart j i after li (sym same)) apart))
    (cases_order i j)
