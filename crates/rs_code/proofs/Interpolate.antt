-- Lagrange's interpolation: at points that are apart it gives a polynomial with any values there.
use Rattle.std.proofs.Common.{◌≡◌, ◌≢◌, ℕ, zero, suc, ◌<◌, ◌≤◌, eqb, List, length, get_or, map, refl, sym, ap, ap₂, ◌∙◌, subst, ⊎_elim, arith, eq-eqb, ne_eqb}
use Rattle.std.specs.Prelude.{bit_xor}
use Rattle.std.specs.Int.Bits.{xor_self, xor_zero_l, xor_zero_r}
use Rattle.std.specs.List.{range_with_len}
use Rattle.std.proofs.lemmas.List.FromFn.{length-map-range_with_len, get_or-map-range_with_len}
use Rattle.std.proofs.lemmas.Bool.{cases_eq, cases_lt, cond-true, cond-false}
use Rattle.gf256.specs.Field.{product, inverse}
use Rattle.gf256.specs.Polynomial.{power, value, AreBytes, AreDifferent, Agree}
use Rattle.gf256.proofs.Public.{sum_lt, equal_from_sum, product_lt, product_comm, product_assoc, product_one, one_product}
use Rattle.gf256.proofs.Public.{product_zero, zero_product, product_inverse, inverse_lt, product_some, power_lt, power_injective}
use Rattle.gf256.proofs.Public.{equal_where_agree}
use Rattle.rs_code.specs.Interpolation.{factor, others, weight, weighed, field_sum}
use Rattle.rs_code.specs.Symbol.{IsSymbol}
use Rattle.rs_code.proofs.Polynomials.{IsPolynomial, polynomial_same, polynomial_zero, polynomial_one, polynomial_sum, polynomial_times}

-- the points are elements, and those of the places below k are different
pub record ArePoints (k : ℕ) (p : ℕ → ℕ) : Type 0 where
  pub elements : (m : ℕ) → p m < 256
  pub apart : (i j : ℕ) → i < k → j < k → p i ≡ p j → i ≡ j

-- the powers of alpha below 255 are such points
pub powers_are_points : (k : ℕ) → k ≤ 255 → ArePoints k power
powers_are_points k lk = record { elements = power_lt; apart = λ i j li lj same. power_injective i j (omega arith) (omega arith) same }

-- the factor of the place itself is 1
pub factor_own : (p : ℕ → ℕ) (i x : ℕ) → factor p i i x ≡ 1
factor_own p i x = cond-true (eqb i i) _ _ (eq-eqb i i refl)

-- the factor of another place is the distance from its point
pub factor_other : (p : ℕ → ℕ) (i m x : ℕ) → m ≢ i → factor p i m x ≡ bit_xor x (p m)
factor_other p i m x apart = cond-false (eqb m i) _ _ (ne_eqb m i apart)

-- a factor is an element
pub factor_lt : (n : ℕ) (p : ℕ → ℕ) (i m x : ℕ) → ArePoints n p → x < 256 → factor p i m x < 256
factor_lt n p i m x are lx =
    ⊎_elim
    (λ is. let e : factor p i m x ≡ 1 = ap (λ a. factor p i a x) is ∙ factor_own p i x in subst (λ (t : ℕ). t < 256) (sym e) (omega arith))
    (λ apart. subst (λ (t : ℕ). t < 256) (sym (factor_other p i m x apart)) (sum_lt x (p m) lx (are.elements m)))
    (cases_eq m i)

-- the product is an element
pub others_lt : (p : ℕ → ℕ) (m i x : ℕ) → x < 256 → others p m i x < 256
unfolding others
others_lt p zero i x lx = omega arith
others_lt p (suc m) i x lx = product_lt (others p m i x) (factor p i m x) (others_lt p m i x lx)

-- the product vanishes at the point of each other place
pub others_null : (n : ℕ) (p : ℕ → ℕ) (k i m : ℕ) → ArePoints n p → m < k → m ≢ i → others p k i (p m) ≡ 0
unfolding others
others_null n p zero i m are less apart = absurd (omega arith)
others_null n p (suc k) i m are less apart =
    ⊎_elim
    (λ below. ap (λ t. product t (factor p i k (p m))) (others_null n p k i m are below apart) ∙ zero_product _ (factor_lt n p i k (p m) are (are.elements m)))
    (λ last.
    let is : k ≡ m = omega arith in
    ap (product (others p k i (p m))) (ap (λ a. factor p i a (p m)) is ∙ factor_other p i m (p m) apart ∙ xor_self (p m))
    ∙ product_zero _ (others_lt p k i (p m) (are.elements m)))
    (cases_lt m k)

-- no factor vanishes at the point of the place itself
factor_some : (n : ℕ) (p : ℕ → ℕ) (i m : ℕ) → ArePoints n p → i < n → m < n → factor p i m (p i) ≢ 0
factor_some n p i m are li lm null =
    ⊎_elim
    (λ is. let e : factor p i m (p i) ≡ 1 = ap (λ a. factor p i a (p i)) is ∙ factor_own p i (p i) in omega arith)
    (λ apart. apart (sym (are.apart i m li lm (equal_from_sum (p i) (p m) (sym (factor_other p i m (p i) apart) ∙ null)))))
    (cases_eq m i)

-- the product does not vanish at the point of the place itself
pub others_some : (n : ℕ) (p : ℕ → ℕ) (k i : ℕ) → ArePoints n p → k ≤ n → i < n → others p k i (p i) ≢ 0
unfolding others
others_some n p zero i are lk li null = cc
others_some n p (suc k) i are lk li null =
    product_some (others p k i (p i)) (factor p i k (p i)) (others_lt p k i (p i) (are.elements i)) (factor_lt n p i k (p i) are (are.elements i))
    (others_some n p k i are (omega arith) li) (factor_some n p i k are li (omega arith)) null

-- with each of the first m places a factor, the product has m + 1 coefficients
polynomial_before : (n : ℕ) (p : ℕ → ℕ) (m i : ℕ) → ArePoints n p → m ≤ i → IsPolynomial (suc m) (others p m i)
unfolding others
polynomial_before n p zero i are le = polynomial_one
polynomial_before n p (suc m) i are le =
    let apart : m ≢ i = omega arith in
    polynomial_same (suc (suc m)) (λ x. product (others p m i x) (bit_xor x (p m))) (others p (suc m) i)
    (polynomial_times (suc m) (p m) (others p m i) (are.elements m) (polynomial_before n p m i are (omega arith)))
    (λ x lx. ap (product (others p m i x)) (sym (factor_other p i m x apart)))

-- the product over the other places is a polynomial of k coefficients
pub polynomial_others : (n : ℕ) (p : ℕ → ℕ) (k i : ℕ) → ArePoints n p → i < k → IsPolynomial k (others p k i)
unfolding others
polynomial_others n p zero i are less = absurd (omega arith)
polynomial_others n p (suc m) i are less =
    ⊎_elim
    (λ past.
    let apart : m ≢ i = omega arith in
    polynomial_same (suc m) (λ x. product (others p m i x) (bit_xor x (p m))) (others p (suc m) i)
    (polynomial_times m (p m) (others p m i) (are.elements m) (polynomial_others n p m i are past))
    (λ x lx. ap (product (others p m i x)) (sym (factor_other p i m x apart))))
    (λ last.
    let is : m ≡ i = omega arith in
    polynomial_same (suc m) (others p m i) (others p (suc m) i) (polynomial_before n p m i are (omega arith))
    (λ x lx. sym (ap (product (others p m i x)) (ap (λ a. factor p i a x) is ∙ factor_own p i x) ∙ product_one (others p m i x) (others_lt p m i x lx))))
    (cases_lt i m)

-- the weight is an element
pub weight_lt : (p : ℕ → ℕ) (k i x : ℕ) → x < 256 → weight p k i x < 256
unfolding weight
weight_lt p k i x lx = product_lt (others p k i x) _ (others_lt p k i x lx)

-- the weight at the place's own point
pub weight_own : (p : ℕ → ℕ) (k i : ℕ) → ArePoints k p → i < k → weight p k i (p i) ≡ 1
unfolding weight
weight_own p k i are li = product_inverse (others p k i (p i)) (others_lt p k i (p i) (are.elements i)) (others_some k p k i are (omega arith) li)

-- the weight at another place's point
weight_other : (p : ℕ → ℕ) (k i m : ℕ) → ArePoints k p → m < k → m ≢ i → weight p k i (p m) ≡ 0
unfolding weight
weight_other p k i m are less apart =
    ap (λ t. product t (inverse (others p k i (p i)))) (others_null k p k i m are less apart)
    ∙ zero_product _ (inverse_lt (others p k i (p i)) (others_lt p k i (p i) (are.elements i)))

-- the sum is an element
pub weighed_lt : (p : ℕ → ℕ) (k : ℕ) (s : List ℕ) (n x : ℕ) → x < 256 → weighed p k s n x < 256
unfolding weighed field_sum
weighed_lt p k s zero x lx = omega arith
weighed_lt p k s (suc n) x lx = sum_lt _ _ (weighed_lt p k s n x lx) (product_lt (weight p k n x) _ (weight_lt p k n x lx))

-- a byte of the list is an element
byte_at : (s : List ℕ) (n : ℕ) → AreBytes s → n < length s → get_or s n 0 < 256
byte_at s n bytes less = bytes n 0 less

-- the sum is a polynomial of k coefficients
pub polynomial_weighed : (p : ℕ → ℕ) (k : ℕ) (s : List ℕ) (n : ℕ) → ArePoints k p → length s ≡ k → AreBytes s → n ≤ k → IsPolynomial k (weighed p k s n)
unfolding weighed weight field_sum
polynomial_weighed p k s zero are len bytes le = polynomial_zero k
polynomial_weighed p k s (suc n) are len bytes le =
    let d : ℕ = inverse (others p k n (p n)) in
    let b : ℕ = get_or s n 0 in
    let ld : inverse (others p k n (p n)) < 256 = inverse_lt _ (others_lt p k n (p n) (are.elements n)) in
    let ldb : product d b < 256 = product_lt d b ld in
    polynomial_same k (λ x. bit_xor (weighed p k s n x) (product (product d b) (others p k n x))) (weighed p k s (suc n))
    (polynomial_sum k (product d b) (weighed p k s n)
    (others p k n) ldb (polynomial_weighed p k s n are len bytes (omega arith)) (polynomial_others k p k n are (omega arith)))
    (λ x lx. ap (bit_xor (weighed p k s n x))
    (product_comm (product d b) (others p k n x) ldb (others_lt p k n x lx) ∙ sym (product_assoc (others p k n x) d b (others_lt p k n x lx) ld)))

-- the sum at the point of a place that it has not is zero
weighed_before : (p : ℕ → ℕ) (k : ℕ) (s : List ℕ) (n m : ℕ) → ArePoints k p → length s ≡ k → AreBytes s → m < k → n ≤ m → weighed p k s n (p m) ≡ 0
unfolding weighed field_sum
weighed_before p k s zero m are len bytes less le = refl
weighed_before p k s (suc n) m are len bytes less le =
    let apart : m ≢ n = omega arith in
    ap₂ bit_xor (weighed_before p k s n m are len bytes less (omega arith))
    (ap (λ t. product t (get_or s n 0)) (weight_other p k n m are less apart) ∙ zero_product _ (byte_at s n bytes (omega arith)))

-- the sum at the point of a place that it has is the value there
pub weighed_after : (p : ℕ → ℕ) (k : ℕ) (s : List ℕ) (n m : ℕ) → ArePoints k p → length s ≡ k → AreBytes s → n ≤ k → m < n → weighed p k s n (p m) ≡ get_or s m 0
unfolding weighed field_sum
weighed_after p k s zero m are len bytes le less = absurd (omega arith)
weighed_after p k s (suc n) m are len bytes le less =
    ⊎_elim
    (λ before.
    let apart : m ≢ n = omega arith in
    ap₂ bit_xor (weighed_after p k s n m are len bytes (omega arith) before)
    (ap (λ t. product t (get_or s n 0)) (weight_other p k n m are (omega arith) apart) ∙ zero_product _ (byte_at s n bytes (omega arith)))
    ∙ xor_zero_r (get_or s m 0))
    (λ last.
    let is : n ≡ m = omega arith in
    ap₂ bit_xor (weighed_before p k s n m are len bytes (omega arith) (omega arith))
    (ap (λ i. product (weight p k i (p m)) (get_or s i 0)) is
    ∙ ap (λ t. product t (get_or s m 0)) (weight_own p k m are (omega arith)) ∙ one_product _ (byte_at s m bytes (omega arith)))
    ∙ xor_zero_l (get_or s m 0))
    (cases_lt m n)

-- the weighed sum of the whole column at alpha^j is symbol j
pub interpolates : (k : ℕ) (s : List ℕ) (j : ℕ) → length s ≡ k → AreBytes s → k ≤ 255 → IsSymbol s j (weighed power k s k (power j))
interpolates k s j len bytes lk =
    let are : ArePoints k power = powers_are_points k lk in
    let f : IsPolynomial k (weighed power k s k) = polynomial_weighed power k s k are len bytes (omega arith) in
    record {
      coefs = f.coefs;
      count = f.count ∙ sym len;
      bytes = f.bytes;
      source = λ i less. f.values (power i) (power_lt i) ∙ weighed_after power k s k i are len bytes (omega arith) (omega arith);
      symbol = sym (f.values (power j) (power_lt j));
    }

-- a byte of the column is the symbol of its place
pub source_is_symbol : (s : List ℕ) (i : ℕ) → AreBytes s → length s ≤ 255 → i < length s → IsSymbol s i (get_or s i 0)
source_is_symbol s i bytes lk less =
    let f : IsSymbol s i (weighed power (length s) s (length s) (power i)) = interpolates (length s) s i refl bytes lk in
    record { coefs = f.coefs; count = f.count; bytes = f.bytes; source = f.source; symbol = sym (f.source i less) }

-- two polynomials of k coefficients that agree at k points are one
pub one_polynomial : (k : ℕ) (p : ℕ → ℕ) (cs ds : List ℕ) → ArePoints k p → AreBytes cs → AreBytes ds → length cs ≡ k → length ds ≡ k
    → ((i : ℕ) → i < k → value cs (p i) ≡ value ds (p i)) → cs ≡ ds
one_polynomial k p cs ds are bc bd lc ld agree =
    let rs : List ℕ = map p (range_with_len 0 k) in
    let len : length (map p (range_with_len 0 k)) ≡ k = length-map-range_with_len p 0 k in
    let at : (i d : ℕ) → i < k → get_or (map p (range_with_len 0 k)) i d ≡ p i = λ i d less. get_or-map-range_with_len p 0 k i i d less (omega arith) in
    let bytes : AreBytes rs = λ i d less. subst (λ (t : ℕ). t < 256) (sym (at i d (omega arith))) (are.elements i) in
    let apart : AreDifferent rs =
    λ i j d order less same.
    let li : i < k = omega arith in
    let lj : j < k = omega arith in
    let is : i ≡ j = are.apart i j li lj (sym (at i d li) ∙ same ∙ at j d lj) in
    omega arith
    in
    let agrees : Agree cs ds rs =
    λ i d less.
    let li : i < k = omega arith in
    ap (value cs) (at i d li) ∙ agree i li ∙ sym (ap (value ds) (at i d li))
    in
    equal_where_agree cs ds rs bc bd bytes (lc ∙ sym ld) (len ∙ sym lc) apart agrees

-- the weighed sum of a polynomial's values at k points is its value
pub weighed_is_value : (k : ℕ) (p : ℕ → ℕ) (cs s : List ℕ) (x : ℕ) → ArePoints k p → length cs ≡ k → AreBytes cs → length s ≡ k → AreBytes s
    → ((i : ℕ) → i < k → value cs (p i) ≡ get_or s i 0) → x < 256 → weighed p k s k x ≡ value cs x
weighed_is_value k p cs s x are lc bc ls bs values lx =
    let f : IsPolynomial k (weighed p k s k) = polynomial_weighed p k s k are ls bs (omega arith) in
    let same : f.coefs ≡ cs =
    one_polynomial k p f.coefs cs are f.bytes bc f.count lc
    (λ i less. f.values (p i) (are.elements i) ∙ weighed_after p k s k i are ls bs (omega arith) less ∙ sym (values i less))
    in
    sym (f.values x lx) ∙ ap (λ c. value c x) same
