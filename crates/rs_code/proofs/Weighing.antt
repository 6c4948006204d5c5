-- The weights of places: from the products of distances to the list that is unique.
use Rattle.std.proofs.Common.{◌≡◌, ◌≢◌, ℕ, zero, suc, ◌+◌, ◌<◌, ◌≤◌, List, [], ◌∷◌, ◌++◌, length, get_or, map, below_more, refl}
use Rattle.std.proofs.Common.{sym, ap, ap₂, ◌∙◌, subst, ⊎_elim, arith, add-one}
use Rattle.std.specs.Prelude.{bit_xor}
use Rattle.std.specs.List.{range_with_len}
use Rattle.std.proofs.lemmas.Bool.{cases_eq, cases_lt}
use Rattle.std.proofs.lemmas.List.{get_or_default, get_or_append_left, get_or_push}
use Rattle.std.proofs.lemmas.List.FromFn.{length-map-range_with_len, get_or-map-range_with_len}
use Rattle.gf256.specs.Field.{product}
use Rattle.gf256.specs.Polynomial.{power, value, AreBytes}
use Rattle.gf256.proofs.Public.{sum_lt, equal_from_sum, product_comm, product_assoc, product_one, inverse_unique, power_lt, power_injective, value_lt}
use Rattle.rs_code.specs.Interpolation.{factor, others, weight, weighed, field_sum}
use Rattle.rs_code.specs.Weights.{ArePlaces, AreWeights, point_of, weighed_bytes}
use Rattle.rs_code.proofs.Interpolate.{ArePoints, factor_own, factor_other, factor_lt, others_lt, others_some, weight_lt, weight_own, weighed_is_value}

-- the points of places are different elements
pub places_are_points : (places : List ℕ) → ArePlaces places → ArePoints (length places) (point_of places)
places_are_points places are = record {
  elements = λ i. power_lt (get_or places i 0);
  apart = λ i j li lj same.
      let is : get_or places i 0 ≡ get_or places j 0 = power_injective (get_or places i 0) (get_or places j 0) (are.below i 0 li) (are.below j 0 lj) same in
      ⊎_elim (λ before. absurd (are.different i j 0 before lj is))
      (λ rest. ⊎_elim (λ after. absurd (are.different j i 0 after li (sym is))) (λ more. omega arith) (cases_lt j i))
      (cases_lt i j);
}

-- sums of equal terms are equal
pub sum_same : (n : ℕ) (f g : ℕ → ℕ) → ((i : ℕ) → i < n → f i ≡ g i) → field_sum n f ≡ field_sum n g
unfolding field_sum
sum_same zero f g same = refl
sum_same (suc n) f g same = ap₂ bit_xor (sum_same n f g (λ i less. same i (omega arith))) (same n (omega arith))

-- positions past the places leave none out
others_past : (p : ℕ → ℕ) (k i j x : ℕ) → k ≤ i → k ≤ j → others p k i x ≡ others p k j x
unfolding others
others_past p zero i j x li lj = refl
others_past p (suc k) i j x li lj =
    let ni : k ≢ i = omega arith in
    let nj : k ≢ j = omega arith in
    ap₂ product (others_past p k i j x (omega arith) (omega arith)) (factor_other p i k x ni ∙ sym (factor_other p j k x nj))

-- the last two of three factors exchanged
product_swap : (a b c : ℕ) → a < 256 → b < 256 → c < 256 → product (product a b) c ≡ product (product a c) b
product_swap a b c la lb lc = product_assoc a b c la lb ∙ ap (product a) (product_comm b c lb lc) ∙ sym (product_assoc a c b la lc)

-- the product over all places is that over all but one, times the distance from that one
pub others_but : (n : ℕ) (p : ℕ → ℕ) (k i j x : ℕ) → ArePoints n p → k ≤ j → i < k → x < 256 → others p k j x ≡ product (others p k i x) (bit_xor x (p i))
unfolding others
others_but n p zero i j x are lk li lx = absurd (omega arith)
others_but n p (suc k) i j x are lk li lx =
    let apart : k ≢ j = omega arith in
    let lo : others p k i x < 256 = others_lt p k i x lx in
    let ld : bit_xor x (p i) < 256 = sum_lt x (p i) lx (are.elements i) in
    ⊎_elim
    (λ before.
    let other : k ≢ i = omega arith in
    ap₂ product (others_but n p k i j x are (omega arith) before lx) (factor_other p j k x apart ∙ sym (factor_other p i k x other))
    ∙ product_swap (others p k i x) (bit_xor x (p i)) (factor p i k x) lo ld (factor_lt n p i k x are lx))
    (λ last.
    let is : k ≡ i = omega arith in
    ap₂ product (others_past p k j i x (omega arith) (omega arith)) (factor_other p j k x apart ∙ ap (λ m. bit_xor x (p m)) is)
    ∙ ap (λ t. product t (bit_xor x (p i))) (sym (ap (product (others p k i x)) (ap (λ m. factor p i m x) is ∙ factor_own p i x) ∙ product_one (others p k i x) lo)))
    (cases_lt i k)

-- what is 1 at the place's own point, and elsewhere the rest of the product times the share, is the weight
pub weight_is : (p : ℕ → ℕ) (k i x all distance share w : ℕ) → ArePoints k p → i < k → x < 256 → share < 256
    → all ≡ others p k k x → distance ≡ bit_xor x (p i) → product (others p k i (p i)) share ≡ 1
    → (distance ≡ 0 → w ≡ 1) → ((rest : ℕ) → rest < 256 → distance ≢ 0 → all ≡ product rest distance → w ≡ product rest share)
    → w ≡ weight p k i x
unfolding weight
weight_is p k i x all distance share w are li lx ls all_is distance_is one own other =
    let o : ℕ = others p k i (p i) in
    ⊎_elim
    (λ null.
    let at : x ≡ p i = equal_from_sum x (p i) (sym distance_is ∙ null) in
    own null ∙ sym (ap (λ (y : ℕ). weight p k i y) at ∙ weight_own p k i are li))
    (λ some.
    let rest : ℕ = others p k i x in
    other rest (others_lt p k i x lx) some (all_is ∙ others_but k p k i k x are (omega arith) li lx ∙ ap (product rest) (sym distance_is))
    ∙ ap (product rest) (inverse_unique o share (others_lt p k i (p i) (are.elements i)) ls (others_some k p k i are (omega arith) li) one))
    (cases_eq distance 0)

-- a list of all places' weights is the list of weights
pub are_weights : (places w : List ℕ) (at : ℕ) → ArePlaces places → length w ≡ length places
    → ((i : ℕ) → i < length places → get_or w i 0 ≡ weight (point_of places) (length places) i (power at)) → AreWeights places at w
unfolding weighed
are_weights places w at are len weights =
    let k : ℕ = length places in
    let p : ℕ → ℕ = point_of places in
    let points : ArePoints (length places) (point_of places) = places_are_points places are in
    record {
      count = len;
      bytes = λ i d less.
          let li : i < length places = omega arith in
          subst (λ (t : ℕ). t < 256) (sym (get_or_default w i d 0 less ∙ weights i li)) (weight_lt p k i (power at) (power_lt at));
      sums = λ cs bytes many.
          let f : ℕ → ℕ = λ (i : ℕ). value cs (point_of places i) in
          let s : List ℕ = map f (range_with_len 0 k) in
          let len_s : length s ≡ length places = length-map-range_with_len f 0 k in
          let at_s : (i d : ℕ) → i < length places → get_or s i d ≡ f i = λ i d less. get_or-map-range_with_len f 0 k i i d less (omega arith) in
          let bytes_s : AreBytes s = λ i d less. subst (λ (t : ℕ). t < 256) (sym (at_s i d (omega arith))) (value_lt cs (p i) bytes (power_lt (get_or places i 0))) in
          sym (weighed_is_value k p cs s (power at) points many bytes len_s bytes_s (λ i less. sym (at_s i 0 less)) (power_lt at))
          ∙ sum_same k (λ i. product (weight p k i (power at)) (get_or s i 0)) (λ i. product (get_or w i 0) (f i))
          (λ i less. ap₂ product (sym (weights i less)) (at_s i 0 less));
    }

-- what holds of each number of a list holds with one more number at its end
pub pushed : (P : ℕ → ℕ → Type 0) (xs : List ℕ) (x n : ℕ) → length xs ≡ n → ((j : ℕ) → j < n → P j (get_or xs j 0)) → P n x
    → (j : ℕ) → j < n + 1 → P j (get_or (xs ++ x ∷ []) j 0)
pushed P xs x n len all here =
    below_more (λ j. P j (get_or (xs ++ x ∷ []) j 0)) n
    (λ j less. let within : j < length xs = omega arith in subst (P j) (sym (get_or_append_left xs (x ∷ []) 0 j within)) (all j less))
    (subst (P n) (sym (get_or_push xs x 0 n len)) here)

-- one more byte, with its weight
pub weighed_more : (w s : List ℕ) (n sum weight byte new : ℕ) → weight ≡ get_or w n 0 → byte ≡ get_or s n 0
    → sum ≡ weighed_bytes w s n → new ≡ bit_xor sum (product weight byte) → new ≡ weighed_bytes w s (n + 1)
unfolding weighed_bytes field_sum
weighed_more w s n sum weight byte new weight_is byte_is before after =
    after ∙ ap₂ bit_xor before (ap₂ product weight_is byte_is) ∙ ap (weighed_bytes w s) (sym (add-one n))

-- the weighed sum of a polynomial's values at the places is its value
pub weighed_value : (places w bytes cs : List ℕ) (at : ℕ) → AreWeights places at w → AreBytes cs → length cs ≡ length places
    → ((i : ℕ) → i < length places → value cs (point_of places i) ≡ get_or bytes i 0) → weighed_bytes w bytes (length places) ≡ value cs (power at)
unfolding weighed_bytes
weighed_value places w bytes cs at weights all len values =
    sum_same (length places) (λ i. product (get_or w i 0) (get_or bytes i 0)) (λ i. product (get_or w i 0) (value cs (point_of places i)))
    (λ i less. ap (product (get_or w i 0)) (sym (values i less)))
    ∙ sym (weights.sums cs all len)
