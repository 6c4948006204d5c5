-- Places have one list of weights: each weight is the value of the polynomial that is 1 at its own point and 0 at
-- the others'.
use Rattle.std.proofs.Common.{◌≡◌, ◌≢◌, ℕ, zero, suc, ◌<◌, List, length, get_or, map, refl, sym, ap, ap₂, ◌∙◌, subst, ⊎_elim, arith, cond, eqb, eq-eqb, ne_eqb}
use Rattle.std.specs.Prelude.{bit_xor}
use Rattle.std.specs.Int.Bits.{xor_zero_l, xor_zero_r}
use Rattle.std.specs.List.{range_with_len}
use Rattle.std.proofs.lemmas.Bool.{cases_lt, cond-true, cond-false, cond_both}
use Rattle.std.proofs.lemmas.List.{get_or_past, ext_get_or}
use Rattle.std.proofs.lemmas.List.FromFn.{length-map-range_with_len, get_or-map-range_with_len}
use Rattle.gf256.specs.Field.{product}
use Rattle.gf256.specs.Polynomial.{power, value, AreBytes}
use Rattle.gf256.proofs.Public.{product_one, product_zero, power_lt}
use Rattle.rs_code.specs.Interpolation.{weighed, field_sum}
use Rattle.rs_code.specs.Weights.{ArePlaces, AreWeights, point_of}
use Rattle.rs_code.proofs.Polynomials.{IsPolynomial}
use Rattle.rs_code.proofs.Interpolate.{ArePoints, polynomial_weighed, weighed_after}
use Rattle.rs_code.proofs.Weighing.{places_are_points}

-- a sum of terms with a factor of zero is zero
sum_null : (n : ℕ) (f g : ℕ → ℕ) → ((j : ℕ) → f j < 256) → ((j : ℕ) → j < n → g j ≡ 0) → field_sum n (λ j. product (f j) (g j)) ≡ 0
unfolding field_sum
sum_null zero f g lf null = refl
sum_null (suc n) f g lf null = ap₂ bit_xor (sum_null n f g lf (λ j less. null j (omega arith))) (ap (product (f n)) (null n (omega arith)) ∙ product_zero (f n) (lf n))

-- a sum whose terms have a factor of zero but for one, which has 1, is the other factor of that one
sum_unit : (n i : ℕ) (f g : ℕ → ℕ) → i < n → ((j : ℕ) → f j < 256) → g i ≡ 1 → ((j : ℕ) → j < n → j ≢ i → g j ≡ 0)
    → field_sum n (λ j. product (f j) (g j)) ≡ f i
unfolding field_sum
sum_unit zero i f g less lf one null = absurd (omega arith)
sum_unit (suc n) i f g less lf one null =
    ⊎_elim
    (λ before.
    let apart : n ≢ i = omega arith in
    ap₂ bit_xor (sum_unit n i f g before lf one (λ j lj. null j (omega arith))) (ap (product (f n)) (null n (omega arith) apart) ∙ product_zero (f n) (lf n))
    ∙ xor_zero_r (f i))
    (λ last.
    let is : n ≡ i = omega arith in
    ap₂ bit_xor (sum_null n f g lf (λ j lj. let apart : j ≢ i = omega arith in null j (omega arith) apart))
    (ap (λ m. product (f m) (g m)) is ∙ ap (product (f i)) one ∙ product_one (f i) (lf i))
    ∙ xor_zero_l (f i))
    (cases_lt i n)

-- the weight of a place is the value of the polynomial that is 1 at its point and 0 at the others'
weight_is_value : (places w : List ℕ) (at i : ℕ) → ArePlaces places → AreWeights places at w → i < length places
    → (cs : List ℕ) → AreBytes cs → length cs ≡ length places → value cs (point_of places i) ≡ 1
    → ((j : ℕ) → j < length places → j ≢ i → value cs (point_of places j) ≡ 0)
    → get_or w i 0 ≡ value cs (power at)
weight_is_value places w at i are weights less cs bytes len one null =
    let lt : (j : ℕ) → get_or w j 0 < 256 =
    λ j. ⊎_elim (λ within. weights.bytes j 0 within) (λ past. let is : get_or w j 0 ≡ 0 = get_or_past w j 0 past in omega arith) (cases_lt j (length w))
    in
    sym (weights.sums cs bytes len ∙ sum_unit (length places) i (λ j. get_or w j 0) (λ j. value cs (point_of places j)) less lt one null)

-- k numbers, of which number i is 1 and the others are 0
unfoldable unit_list : ℕ → ℕ → List ℕ
unit_list k i = map (λ j. cond (eqb j i) 1 0) (range_with_len 0 k)

length-unit_list : (k i : ℕ) → length (unit_list k i) ≡ k
unfolding unit_list
length-unit_list k i = length-map-range_with_len (λ j. cond (eqb j i) 1 0) 0 k

get_or-unit_list : (k i j d : ℕ) → j < k → get_or (unit_list k i) j d ≡ cond (eqb j i) 1 0
unfolding unit_list
get_or-unit_list k i j d less = get_or-map-range_with_len (λ j. cond (eqb j i) 1 0) 0 k j j d less (omega arith)

unit_list_bytes : (k i : ℕ) → AreBytes (unit_list k i)
unit_list_bytes k i j d less =
    let len : length (unit_list k i) ≡ k = length-unit_list k i in
    subst (λ (t : ℕ). t < 256) (sym (get_or-unit_list k i j d (omega arith))) (cond_both (eqb j i) 1 0 (λ t. t < 256) (λ e. omega arith) (λ e. omega arith))

-- the weight of a place is the value of one polynomial, whatever the list
weight_by_unit : (places w : List ℕ) (at i : ℕ) → ArePlaces places → AreWeights places at w → i < length places
    → get_or w i 0 ≡ weighed (point_of places) (length places) (unit_list (length places) i) (length places) (power at)
weight_by_unit places w at i are weights less =
    let k : ℕ = length places in
    let points : ArePoints (length places) (point_of places) = places_are_points places are in
    let f : IsPolynomial (length places) (weighed (point_of places) (length places) (unit_list (length places) i) (length places)) =
    polynomial_weighed (point_of places) k (unit_list k i) k points (length-unit_list k i) (unit_list_bytes k i) (omega arith)
    in
    let here : (j : ℕ) → j < length places → value f.coefs (point_of places j) ≡ cond (eqb j i) 1 0 =
    λ j lj. f.values (point_of places j) (points.elements j)
    ∙ weighed_after (point_of places) k (unit_list k i) k j points (length-unit_list k i) (unit_list_bytes k i) (omega arith) lj ∙ get_or-unit_list k i j 0 lj
    in
    weight_is_value places w at i are weights less f.coefs f.bytes f.count
    (here i less ∙ cond-true (eqb i i) 1 0 (eq-eqb i i refl)) (λ j lj apart. here j lj ∙ cond-false (eqb j i) 1 0 (ne_eqb j i apart))
    ∙ f.values (power at) (power_lt at)

-- two lists of weights are one
pub one_list : (places v w : List ℕ) (at : ℕ) → ArePlaces places → AreWeights places at v → AreWeights places at w → v ≡ w
one_list places v w at are vs ws =
    let many : length v ≡ length places = vs.count in
    ext_get_or 0 v w (vs.count ∙ sym ws.count)
    (λ i less. weight_by_unit places v at i are vs (omega arith) ∙ sym (weight_by_unit places w at i are ws (omega arith)))
