-- The shares of source places 0 to k - 1, one after another.
use Rattle.std.proofs.Common.{◌≡◌, ◌≢◌, ℕ, zero, suc, ◌+◌, ◌-◌, ◌<◌, ◌≤◌, eqb, cond, length, get_or, [], ◌∷◌, ◌++◌, refl, sym, ap, ap₂, ◌∙◌, subst, ⊎_elim, arith}
use Rattle.std.specs.Prelude.{bit_xor}
use Rattle.std.specs.List.{range_with_len}
use Rattle.std.proofs.lemmas.Bool.{cases_lt}
use Rattle.std.proofs.lemmas.List.{map-id}
use Rattle.std.proofs.lemmas.List.FromFn.{get_or-range_with_len, length-range_with_len, map-range_with_len_more}
use Rattle.gf256.specs.Field.{double, product}
use Rattle.gf256.specs.Polynomial.{power}
use Rattle.gf256.proofs.Public.{sum_lt, equal_from_sum, product_lt, product_comm, product_assoc, product_one, one_product}
use Rattle.gf256.proofs.Public.{product_some, product_double, double_product, double_lt, double_sum, power_lt, power_some}
use Rattle.gf256.proofs.Public.{power_injective}
use Rattle.rs_code.specs.Interpolation.{factor, others}
use Rattle.rs_code.specs.Weights.{ArePlaces, point_of}
use Rattle.rs_code.proofs.Interpolate.{powers_are_points, factor_own, factor_other, factor_lt, others_lt}

-- the distance from a power is an element
power_factor_lt : (i m x : ℕ) → x < 256 → factor power i m x < 256
power_factor_lt i m x lx = factor_lt 0 power i m x (powers_are_points 0 (omega arith)) lx

-- a doubling moves from the last factor to the second
double_moves : (c p t f : ℕ) → c < 256 → p < 256 → t < 256 → f < 256
    → product (product (product c p) t) (double f) ≡ product (product c (double p)) (product t f)
double_moves c p t f lc lp lt lf =
    let lcp : product c p < 256 = product_lt c p lc in
    product_assoc (product c p) t (double f) lcp lt
    ∙ ap (product (product c p)) (product_double t f lt lf)
    ∙ product_double (product c p) (product t f) lcp (product_lt t f lt)
    ∙ sym (double_product (product c p) (product t f) lcp)
    ∙ ap (λ u. product u (product t f)) (sym (product_double c p lc lp))

-- the distance of a doubled element from a later power is the double of its distance from the power
distance_double : (i n x : ℕ) → n ≢ i → x < 256 → factor power (suc i) (suc n) (double x) ≡ double (factor power i n x)
unfolding power
distance_double i n x apart lx =
    let apart' : suc n ≢ suc i = omega arith in
    factor_other power (suc i) (suc n) (double x) apart' ∙ sym (double_sum x (power n) lx (power_lt n)) ∙ ap double (sym (factor_other power i n x apart))

-- the product of the distances of a doubled element from n + 1 powers, where none is left out
before : (n i x : ℕ) → n ≤ i → x < 256 → others power (suc n) (suc i) (double x) ≡ product (product (bit_xor (double x) 1) (power n)) (others power n i x)
unfolding others power
before zero i x le lx =
    let apart : 0 ≢ suc i = omega arith in
    let c : ℕ = bit_xor (double x) 1 in
    let lc : bit_xor (double x) 1 < 256 = sum_lt (double x) 1 (double_lt x lx) (omega arith) in
    ap (product 1) (factor_other power (suc i) 0 (double x) apart) ∙ one_product c lc
    ∙ sym (product_one (product c 1) (product_lt c 1 lc) ∙ product_one c lc)
before (suc n) i x le lx =
    let apart : n ≢ i = omega arith in
    let lc : bit_xor (double x) 1 < 256 = sum_lt (double x) 1 (double_lt x lx) (omega arith) in
    ap₂ product (before n i x (omega arith) lx) (distance_double i n x apart lx)
    ∙ double_moves (bit_xor (double x) 1) (power n) (others power n i x) (factor power i n x) lc (power_lt n) (others_lt power n i x lx) (power_factor_lt i n x lx)

-- the double of that product where one is left out
past : (n i x : ℕ) → i < n → x < 256 → double (others power (suc n) (suc i) (double x)) ≡ product (product (bit_xor (double x) 1) (power n)) (others power n i x)
unfolding others power
past zero i x less lx = absurd (omega arith)
past (suc n) i x less lx =
    let c : ℕ = bit_xor (double x) 1 in
    let lc : bit_xor (double x) 1 < 256 = sum_lt (double x) 1 (double_lt x lx) (omega arith) in
    let t : ℕ = others power n i x in
    let lt : others power n i x < 256 = others_lt power n i x lx in
    let o : ℕ = others power (suc n) (suc i) (double x) in
    let lo : others power (suc n) (suc i) (double x) < 256 = others_lt power (suc n) (suc i) (double x) (double_lt x lx) in
    ⊎_elim
    (λ earlier.
    let apart : n ≢ i = omega arith in
    sym (double_product o (factor power (suc i) (suc n) (double x)) lo)
    ∙ ap₂ product (past n i x earlier lx) (distance_double i n x apart lx)
    ∙ double_moves c (power n) t (factor power i n x) lc (power_lt n) lt (power_factor_lt i n x lx))
    (λ last.
    let is : n ≡ i = omega arith in
    let cp : product (bit_xor (double x) 1) (power n) < 256 = product_lt c (power n) lc in
    ap double (ap (product o) (ap (λ m. factor power (suc i) (suc m) (double x)) is ∙ factor_own power (suc i) (double x)) ∙ product_one o lo ∙ before n i x last lx)
    ∙ sym (double_product (product c (power n)) t cp)
    ∙ ap₂ product (sym (product_double c (power n) lc (power_lt n)))
    (sym (ap (product t) (ap (λ m. factor power i m x) is ∙ factor_own power i x) ∙ product_one t lt)))
    (cases_lt i n)

-- the product at one place's point and that at the next, each times what it lacks
moved : (n j : ℕ) → j < n
    → product (others power (suc n) j (power j)) (product (power n) (bit_xor (power (suc j)) 1))
    ≡ product (others power (suc n) (suc j) (power (suc j))) (bit_xor (power (suc j)) (power (suc n)))
unfolding others power
moved n j less =
    let x : ℕ = power j in
    let lx : power j < 256 = power_lt j in
    let c : ℕ = bit_xor (double x) 1 in
    let lc : bit_xor (double (power j)) 1 < 256 = sum_lt (double x) 1 (double_lt x lx) (omega arith) in
    let t : ℕ = others power n j x in
    let lt : others power n j (power j) < 256 = others_lt power n j x lx in
    let d : ℕ = bit_xor x (power n) in
    let ld : bit_xor (power j) (power n) < 256 = sum_lt x (power n) lx (power_lt n) in
    let o : ℕ = others power (suc n) (suc j) (double x) in
    let lo : others power (suc n) (suc j) (double (power j)) < 256 = others_lt power (suc n) (suc j) (double x) (double_lt x lx) in
    let lcp : product (bit_xor (double (power j)) 1) (power n) < 256 = product_lt c (power n) lc in
    let apart : n ≢ j = omega arith in
    let left : product (product t (factor power j n x)) (product (power n) c) ≡ product (product (product c (power n)) t) d =
    ap₂ product (ap (product t) (factor_other power j n x apart)) (product_comm (power n) c (power_lt n) lc)
    ∙ product_comm (product t d) (product c (power n)) (product_lt t d lt) lcp
    ∙ sym (product_assoc (product c (power n)) t d lcp lt)
    in
    let right : product o (bit_xor (double x) (double (power n))) ≡ product (product (product c (power n)) t) d =
    ap (product o) (sym (double_sum x (power n) lx (power_lt n)))
    ∙ product_double o d lo ld ∙ sym (double_product o d lo) ∙ ap (λ u. product u d) (past n j x less lx)
    in
    left ∙ sym right

-- what is lost with a place is not zero
pub lost_some : (k i : ℕ) → 1 ≤ i → i < 255 → product (power (k - 1)) (bit_xor (power i) 1) ≢ 0
unfolding power
lost_some k i some less =
    product_some (power (k - 1)) (bit_xor (power i) 1) (power_lt (k - 1)) (sum_lt (power i) 1 (power_lt i) (omega arith)) (power_some (k - 1))
    (λ null. let is : i ≡ 0 = power_injective i 0 less (omega arith) (equal_from_sum (power i) 1 null) in omega arith)

-- the share of the next place
pub next_share_is : (k i share gained lost back : ℕ) → 1 ≤ i → i < k → share < 256 → gained < 256 → back < 256
    → gained ≡ bit_xor (power i) (power k) → lost ≡ product (power (k - 1)) (bit_xor (power i) 1) → product lost back ≡ 1
    → product (others power k (i - 1) (power (i - 1))) share ≡ 1 → product (others power k i (power i)) (product (product share gained) back) ≡ 1
next_share_is k zero share gained lost back some less ls lg lb g l one inverse = absurd (omega arith)
next_share_is zero (suc j) share gained lost back some less ls lg lb g l one inverse = absurd (omega arith)
next_share_is (suc n) (suc j) share gained lost back some less ls lg lb g l one inverse =
    let d : ℕ = others power (suc n) (suc j) (power (suc j)) in
    let ld : others power (suc n) (suc j) (power (suc j)) < 256 = others_lt power (suc n) (suc j) (power (suc j)) (power_lt (suc j)) in
    let b : ℕ = others power (suc n) j (power j) in
    let lb' : others power (suc n) j (power j) < 256 = others_lt power (suc n) j (power j) (power_lt j) in
    let en : suc n - 1 ≡ n = omega arith in
    let ej : suc j - 1 ≡ j = omega arith in
    let lost_is : lost ≡ product (power n) (bit_xor (power (suc j)) 1) = l ∙ ap (λ m. product (power m) (bit_xor (power (suc j)) 1)) en in
    let ll : lost < 256 = subst (λ (t : ℕ). t < 256) (sym lost_is) (product_lt (power n) _ (power_lt n)) in
    let once : product b share ≡ 1 = ap (λ m. product (others power (suc n) m (power m)) share) (sym ej) ∙ inverse in
    let whole : product d (product share gained) ≡ lost =
    ap (product d) (product_comm share gained ls lg)
    ∙ sym (product_assoc d gained share ld lg)
    ∙ ap (λ t. product t share) (ap (product d) g ∙ sym (moved n j (omega arith)) ∙ ap (product b) (sym lost_is))
    ∙ product_assoc b lost share lb' ll ∙ ap (product b) (product_comm lost share ll ls) ∙ sym (product_assoc b share lost lb' ls)
    ∙ ap (λ t. product t lost) once ∙ one_product lost ll
    in
    sym (product_assoc d (product share gained) back ld (product_lt share gained ls)) ∙ ap (λ t. product t back) whole ∙ one

-- points equal at the places below k give the same product
others_same : (p q : ℕ → ℕ) (k i x : ℕ) → ((m : ℕ) → m < k → p m ≡ q m) → others p k i x ≡ others q k i x
unfolding others
others_same p q zero i x same = refl
others_same p q (suc k) i x same =
    ap₂ product (others_same p q k i x (λ m less. same m (omega arith))) (ap (λ y. cond (eqb k i) 1 (bit_xor x y)) (same k (omega arith)))

-- the point of source place i
pub source_point : (k i : ℕ) → i < k → point_of (range_with_len 0 k) i ≡ power i
source_point k i less =
    let is : 0 + i ≡ i = omega arith in ap power (get_or-range_with_len 0 k i 0 less ∙ is)

-- the product of distances between source places
pub source_others : (k i : ℕ) → i < k → others (point_of (range_with_len 0 k))
    (length (range_with_len 0 k)) i (point_of (range_with_len 0 k) i) ≡ others power k i (power i)
source_others k i less =
    ap₂ (λ n x. others (point_of (range_with_len 0 k)) n i x) (length-range_with_len 0 k) (source_point k i less)
    ∙ others_same (point_of (range_with_len 0 k)) power k i (power i) (λ m lm. source_point k m lm)

-- the places of the source symbols are places
pub sources_are_places : (k : ℕ) → 1 ≤ k → k ≤ 255 → ArePlaces (range_with_len 0 k)
sources_are_places k some most =
    let len : length (range_with_len 0 k) ≡ k = length-range_with_len 0 k in
    let at : (i d : ℕ) → i < k → get_or (range_with_len 0 k) i d ≡ i =
    λ i d less. let is : 0 + i ≡ i = omega arith in get_or-range_with_len 0 k i d less ∙ is
    in
    record {
      some = omega arith;
      most = omega arith;
      different = λ i j d order less same.
          let is : i ≡ j = sym (at i d (omega arith)) ∙ same ∙ at j d (omega arith) in omega arith;
      below = λ i d less. let is : get_or (range_with_len 0 k) i d ≡ i = at i d (omega arith) in omega arith;
    }

-- one more number of a range
pub range_more : (n : ℕ) → range_with_len 0 (n + 1) ≡ range_with_len 0 n ++ n ∷ []
range_more n =
    sym (map-id (range_with_len 0 (n + 1))) ∙ map-range_with_len_more (λ i. i) 0 n n (omega arith) ∙ ap (λ xs. xs ++ n ∷ []) (map-id (range_with_len 0 n))
