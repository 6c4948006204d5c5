-- T, N and the sizes of blocks as numbers.
use Rattle.std.proofs.Common.{◌≡◌, ℕ, zero, suc, ◌+◌, ◌-◌, ◌*◌, ◌/◌, ◌%◌, ◌^◌, ◌<◌, ◌≤◌, min, refl, ap, ◌∙◌, arith, inl, inr}
use Rattle.std.specs.Int.{div_ceil}
use Rattle.std.proofs.Math.Nat.{mod-lt, lt_of_mul-lt-mul_right, le-mul_of_pos_right, mul-le-mul_right}
use Rattle.std.proofs.lemmas.Bool.{cases_lt}
use Rattle.std.proofs.lemmas.Nat.{div-add-mod'}
use Rattle.oti_blocks.specs.Partition.{ObjectInformation, IsSound, length_of, symbol_of, max_block_of, sources, blocks, large, small, large_count, last_length}
use Rattle.oti_blocks.proofs.Bounds.{bounds}

-- ---- quotients

-- a quotient q with the rest r, rounded up, times the divisor
up : (q r y : ℕ) → r < y → (q * y + r ≤ (q + min 1 r) * y) × ((q + min 1 r) * y < q * y + r + y)
up q zero y lt = (omega arith, omega arith)
up q (suc r) y lt =
    let one : min 1 (suc r) ≡ 1 = omega arith in
    rw one (omega arith, omega arith)

-- what is rounded up is the least multiple that isn't below
pub div_ceil_bounds : (x y : ℕ) → 1 ≤ y → (x ≤ div_ceil x y * y) × (div_ceil x y * y < x + y)
div_ceil_bounds x y some =
    let rest : x % y < y = mod-lt x (omega arith) in
    let split = div-add-mod' x y in
    let b = up (x / y) (x % y) y rest in
    (omega (arith, b.0, split), omega (arith, b.1, split))

-- of what is above 0 there is at least one part
pub div_ceil_pos : (x y : ℕ) → 1 ≤ y → 1 ≤ x → 1 ≤ div_ceil x y
div_ceil_pos x y some_y some_x =
    elim (cases_lt 0 (div_ceil x y)) [
      | inl more ↦ more
      | inr none ↦
          let nil : div_ceil x y ≡ 0 = omega arith in
          let b = div_ceil_bounds x y some_y in
          let prod : div_ceil x y * y ≡ 0 = ap (λ n. n * y) nil ∙ omega arith in
          absurd (omega (arith, b.0, prod))
    ]

-- no more parts than there are things
pub div_ceil_le_self : (x y : ℕ) → 1 ≤ y → div_ceil x y ≤ x
div_ceil_le_self x y some =
    let b = div_ceil_bounds x y some in
    elim (cases_lt x (div_ceil x y)) [
      | inl more ↦
          let all : suc x * y ≤ div_ceil x y * y = mul-le-mul_right y more in
          let each : x ≤ x * y = le-mul_of_pos_right x some in
          absurd (omega (arith, b.1, all, each))
      | inr le ↦ le
    ]

-- parts of at most m things each
pub div_ceil-le : (x y m : ℕ) → 1 ≤ y → x ≤ m * y → div_ceil x y ≤ m
div_ceil-le x y m some fits =
    let b = div_ceil_bounds x y some in
    let less : div_ceil x y * y < suc m * y = omega (arith, b.1) in
    let below : div_ceil x y < suc m = lt_of_mul-lt-mul_right y less in
    omega arith

-- one time less
back_one : (n y : ℕ) → 1 ≤ n → (n - 1) * y + y ≡ n * y
back_one zero y some = absurd (omega arith)
back_one (suc n) y some = let e : suc n - 1 ≡ n = omega arith in rw e (omega arith)

-- ---- the object's numbers

pub sources_bounds : (o : ObjectInformation) → IsSound o → ((length_of o) ≤ sources o * (symbol_of o)) × (sources o * (symbol_of o) < (length_of o) + (symbol_of o))
unfolding sources
sources_bounds o sound = div_ceil_bounds (length_of o) (symbol_of o) (bounds o sound).some_symbol

pub sources_pos : (o : ObjectInformation) → IsSound o → 1 ≤ sources o
unfolding sources
sources_pos o sound = div_ceil_pos (length_of o) (symbol_of o) (bounds o sound).some_symbol (omega (arith, (bounds o sound).long))

pub sources_le : (o : ObjectInformation) → IsSound o → sources o < 2 ^ 48
unfolding sources
sources_le o sound = omega (arith, div_ceil_le_self (length_of o) (symbol_of o) (bounds o sound).some_symbol, (bounds o sound).length_fits)

pub blocks_pos : (o : ObjectInformation) → IsSound o → 1 ≤ blocks o
unfolding blocks
blocks_pos o sound = div_ceil_pos (sources o) (max_block_of o) (bounds o sound).some_block (sources_pos o sound)

pub blocks_le_sources : (o : ObjectInformation) → IsSound o → blocks o ≤ sources o
unfolding blocks
blocks_le_sources o sound = div_ceil_le_self (sources o) (max_block_of o) (bounds o sound).some_block

pub sources_within : (o : ObjectInformation) → IsSound o → sources o ≤ (max_block_of o) * blocks o
unfolding blocks
sources_within o sound = omega (arith, div_ceil_bounds (sources o) (max_block_of o) (bounds o sound).some_block)

-- T is N smaller blocks and one source symbol more for each larger one
pub sources_split : (o : ObjectInformation) → IsSound o → (small o * blocks o + large_count o ≡ sources o)
    × (large_count o < blocks o) × (large o ≡ small o + min 1 (large_count o))
unfolding small large large_count
sources_split o sound =
    let some = blocks_pos o sound in
    let split = div-add-mod' (sources o) (blocks o) in
    let rest : sources o % blocks o < blocks o = mod-lt (sources o) (omega arith) in
    let is : sources o - sources o / blocks o * blocks o ≡ sources o % blocks o = omega (arith, split) in
    (omega (arith, split), omega (arith, is, rest), rw is refl)

pub small_pos : (o : ObjectInformation) → IsSound o → 1 ≤ small o
small_pos o sound =
    let parts = sources_split o sound in
    let few = blocks_le_sources o sound in
    elim (cases_lt 0 (small o)) [
      | inl more ↦ more
      | inr none ↦
          let nil : small o ≡ 0 = omega arith in
          let prod : small o * blocks o ≡ 0 = ap (λ n. n * blocks o) nil ∙ omega arith in
          absurd (omega (arith, parts.0, parts.1, few, prod))
    ]

pub small_le_large : (o : ObjectInformation) → IsSound o → small o ≤ large o
small_le_large o sound = let parts = sources_split o sound in rw (parts.2) (omega arith)

pub large_le : (o : ObjectInformation) → IsSound o → large o ≤ (max_block_of o)
unfolding large
large_le o sound = div_ceil-le (sources o) (blocks o) (max_block_of o) (blocks_pos o sound) (sources_within o sound)

-- the last source symbol has bytes of the object, and no more than a symbol has
pub last_length_bounds : (o : ObjectInformation) → IsSound o → ((sources o - 1) * (symbol_of o) ≤ (length_of o)) × (1 ≤ last_length o) × (last_length o ≤ (symbol_of o))
unfolding last_length
last_length_bounds o sound =
    let some = sources_pos o sound in
    let b = sources_bounds o sound in
    let whole : (sources o - 1) * (symbol_of o) + (symbol_of o) ≡ sources o * (symbol_of o) = back_one (sources o) (symbol_of o) some in
    (omega (arith, b.1, whole), omega (arith, b.1, whole, (bounds o sound).some_symbol), omega (arith, b.0, whole))
