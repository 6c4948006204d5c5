-- Lagrange's interpolation at k points: p gives the point of each place below k.
use Rattle.std.specs.Prelude.{ℕ, zero, suc, ◌==◌, if◌then◌else◌, bit_xor, List, slice_index}
use Rattle.gf256.specs.Field.{product, inverse}

-- the sum of the elements that `term` gives below n
unfoldable pub field_sum : ℕ → (ℕ → ℕ) → ℕ
field_sum zero term = 0
field_sum (suc n) term = bit_xor (field_sum n term) (term n)

-- the factor of place m in the polynomial that vanishes at each point but that of i
abbrev pub factor : (ℕ → ℕ) → ℕ → ℕ → ℕ → ℕ
factor p i m x = if m == i then 1 else bit_xor x (p m)

-- the value at x of the polynomial that vanishes at the points of the places below k but i
unfoldable pub others : (ℕ → ℕ) → ℕ → ℕ → ℕ → ℕ
others p zero i x = 1
others p (suc m) i x = product (others p m i x) (factor p i m x)

-- the weight of place i at x: 1 at its own point, and 0 at those of the others
unfoldable pub weight : (ℕ → ℕ) → ℕ → ℕ → ℕ → ℕ
weight p k i x = product (others p k i x) (inverse (others p k i (p i)))

-- the sum of the first n values, each with its weight at x
unfoldable pub weighed : (ℕ → ℕ) → ℕ → List ℕ → ℕ → ℕ → ℕ
weighed p k values n x = field_sum n (λ i. product (weight p k i x) (slice_index values i))
