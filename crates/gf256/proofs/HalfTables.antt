-- The table of products with halves of bytes, each entry tested by computing. The entries of a factor are
-- dropped to once, so that the list is walked once for each factor.
use Rattle.std.proofs.Common.{◌≡◌, ℕ, ◌+◌, ◌*◌, ◌<◌, Bool, true, ◌&&◌, eqb, List, get_or, drop, refl, eqb-true}
use Rattle.std.proofs.lemmas.Bool.{and_parts}
use Rattle.gf256.specs.Field.{double, product, product_of}
use Rattle.gf256.specs.declared.halves.TheConstants.{PRODUCTS}
use Rattle.gf256.proofs.Finite.{each_below, passes_at}

-- the factor's product with a low half and that with a high half
unfoldable entry : ℕ → List ℕ → ℕ → Bool
entry a xs j = eqb (get_or xs j 0) (product a j) && eqb (get_or xs (16 + j) 0) (product a (16 * j))

products_tested : each_below 256 (λ a. each_below 16 (entry a (drop (32 * a) PRODUCTS))) ≡ true
unfolding each_below double product_of product entry
products_tested = refl

-- the entries of a factor
pub entries : (a j : ℕ) → a < 256 → j < 16
    → (get_or (drop (32 * a) PRODUCTS) j 0 ≡ product a j) × (get_or (drop (32 * a) PRODUCTS) (16 + j) 0 ≡ product a (16 * j))
unfolding entry
entries a j la lj =
    let row : each_below 16 (entry a (drop (32 * a) PRODUCTS)) ≡ true = passes_at 256 (λ a. each_below 16 (entry a (drop (32 * a) PRODUCTS))) products_tested a la in
    let both = and_parts (eqb (get_or (drop (32 * a) PRODUCTS) j 0) (product a j)) (eqb (get_or (drop (32 * a) PRODUCTS) (16 + j) 0) (product a (16 * j)))
    (passes_at 16 (entry a (drop (32 * a) PRODUCTS)) row j lj)
    in
    (eqb-true _ _ both.0, eqb-true _ _ both.1)
