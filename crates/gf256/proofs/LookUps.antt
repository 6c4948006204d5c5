-- Products of vectors of elements by two look-ups of sixteen products, lane by lane.
use Rattle.std.proofs.Common.{◌≡◌, ℕ, zero, suc, ◌+◌, ◌*◌, ◌/◌, ◌^◌, ◌<◌, ◌&&◌, true, eqb, ltb, List, [], ◌∷◌, map, length, get_or}
use Rattle.std.proofs.Common.{replicate, bit_and, bit_xor, refl, sym, ap, ap₂, ◌∙◌, arith, w8, Fits, eqb-true, ltb-true}
use Rattle.std.proofs.lemmas.Bool.{and_parts}
use Rattle.std.proofs.lemmas.List.{get_or-map, length-map, ext_get_or}
use Rattle.std.proofs.lemmas.Nat.{and_le_r}
use Rattle.std.proofs.lemmas.Simd.{Each1-all, Each1-weaker, Each1-zip2, Each2-splat, below_from_Fits, length-zip2, zip2_splat}
use Rattle.std.proofs.lemmas.Simd.{zip2_of_maps, swz_l, SwzOk, SwzOk-from_below, length-swz_l, get_or-swz_l_below}
use lib.Lanes.{zip2, Each1}
use Rattle.gf256.specs.Field.{product}
use Rattle.gf256.specs.Inner.Lanes.{AreProducts}
use Rattle.gf256.proofs.Finite.{each_below, passes_at}
use Rattle.gf256.proofs.Products.{product_sum}

-- sixteen bytes
abbrev pub AreLanes : List ℕ → Type 0
AreLanes v = (length v ≡ 16) × Each1 (Fits w8) v

-- the number shifted right
abbrev pub shifted : ℕ → ℕ → ℕ
shifted a b = a / 2 ^ b

-- a lane is a byte
lane_lt : (v : List ℕ) (i : ℕ) → Each1 (Fits w8) v → get_or v i 0 < 256
lane_lt [] i fits = omega arith
lane_lt (x ∷ xs) zero fits = fits.0.fits
lane_lt (x ∷ xs) (suc i) fits = lane_lt xs i fits.1

-- the high halves are places in a table of sixteen
pub high_ok : (v : List ℕ) → AreLanes v → SwzOk w8 16 16 0 (zip2 shifted v (replicate 16 4))
high_ok v are =
    let small = Each1-weaker (λ a. a < 256) (λ a. a / 16 < 16) (λ a less. omega arith) v (below_from_Fits w8 v are.1) in
    SwzOk-from_below w8 16 1 16 0 (zip2 shifted v (replicate 16 4)) refl (omega (arith, length-zip2 shifted v (replicate 16 4) are.0))
    (Each1-zip2 shifted (λ j. j < 16) v (replicate 16 4) (Each2-splat (λ a b. shifted a b < 16) v 16 4 small))

-- so are the low halves
pub low_ok : (v : List ℕ) → AreLanes v → SwzOk w8 16 16 0 (zip2 bit_and v (replicate 16 15))
low_ok v are =
    let small = Each1-all (λ a. bit_and a 15 < 16) (λ a. omega (arith, and_le_r a 15)) v in
    SwzOk-from_below w8 16 1 16 0 (zip2 bit_and v (replicate 16 15)) refl (omega (arith, length-zip2 bit_and v (replicate 16 15) are.0))
    (Each1-zip2 bit_and (λ j. j < 16) v (replicate 16 15) (Each2-splat (λ a b. bit_and a b < 16) v 16 15 small))

-- a table of sixteen values of f, read at the halves g of the lanes
looked_up : (table : List ℕ) (f g : ℕ → ℕ) (v js : List ℕ) → AreLanes v → js ≡ map g v → ((x : ℕ) → x < 256 → g x < 16)
    → ((j : ℕ) → j < 16 → get_or table j 0 ≡ f j) → swz_l w8 16 table 0 js ≡ map (λ x. f (g x)) v
looked_up table f g v js are e small values =
    let long : length js ≡ 16 = ap length e ∙ length-map v g ∙ are.0 in
    ext_get_or 0 _ _ (length-swz_l w8 16 table 0 js ∙ long ∙ sym (length-map v (λ x. f (g x)) ∙ are.0)) (λ i h.
    let lt : i < 16 = omega (arith, length-swz_l w8 16 table 0 js) in
    let within : i < length v = omega (arith, are.0) in
    let is : get_or js i 0 ≡ g (get_or v i 0) = ap (λ l. get_or l i 0) e ∙ get_or-map g v i 0 0 within in
    let below : get_or js i 0 < 16 = omega (arith, small (get_or v i 0) (lane_lt v i are.1)) in
    let at : 16 * ((0 + i) / 16) + get_or js i 0 ≡ get_or js i 0 = omega arith in
    get_or-swz_l_below w8 16 table 0 js i (omega arith) below
    ∙ ap (λ k. get_or table k 0) at
    ∙ values (get_or js i 0) below
    ∙ ap f is ∙ sym (get_or-map (λ x. f (g x)) v i 0 0 within))

-- a byte is the sum of its halves
halves_tested : each_below 256 (λ x. eqb (bit_xor (bit_and x 15) (16 * (x / 16))) x && ltb (bit_and x 15) 16) ≡ true
unfolding each_below
halves_tested = refl

-- the sum of the products with the halves is the product
half_products : (by x : ℕ) → by < 256 → x < 256 → bit_xor (product by (bit_and x 15)) (product by (16 * (x / 16))) ≡ product by x
half_products by x lb lx =
    let parts : (eqb (bit_xor (bit_and x 15) (16 * (x / 16))) x ≡ true) × (ltb (bit_and x 15) 16 ≡ true) =
    and_parts _ _ (passes_at 256 (λ x. eqb (bit_xor (bit_and x 15) (16 * (x / 16))) x && ltb (bit_and x 15) 16) halves_tested x lx)
    in
    let low : bit_and x 15 < 16 = ltb-true _ _ parts.1 in
    sym (product_sum by (bit_and x 15) (16 * (x / 16)) lb (omega arith) (omega arith)) ∙ ap (product by) (eqb-true _ _ parts.0)

-- functions equal at each lane
map_same : (f g : ℕ → ℕ) (v : List ℕ) → Each1 (Fits w8) v → ((x : ℕ) → x < 256 → f x ≡ g x) → map f v ≡ map g v
map_same f g [] fits same = refl
map_same f g (x ∷ xs) fits same = ap₂ (λ y ys. y ∷ ys) (same x fits.0.fits) (map_same f g xs fits.1 same)

-- both look-ups, summed, are the products
pub products_by_halves : (by : ℕ) (low high v : List ℕ) → by < 256 → AreLanes v → AreProducts by low high
    → zip2 bit_xor (swz_l w8 16 low 0 (zip2 bit_and v (replicate 16 15))) (swz_l w8 16 high 0 (zip2 shifted v (replicate 16 4))) ≡ map (product by) v
products_by_halves by low high v lb are tables =
    zip2_of_maps bit_xor (λ x. product by (bit_and x 15)) (λ x. product by (16 * (x / 16))) v
    (looked_up low (product by) (λ x. bit_and x 15) v _ are (zip2_splat bit_and v 16 15 are.0) (λ x h. omega (arith, and_le_r x 15)) tables.low)
    (looked_up high (λ j. product by (16 * j)) (λ x. x / 16) v _ are (zip2_splat shifted v 16 4 are.0) (λ x h. omega arith) tables.high)
    ∙ map_same (λ x. bit_xor (product by (bit_and x 15)) (product by (16 * (x / 16)))) (product by) v are.1 (λ x lx. half_products by x lb lx)
