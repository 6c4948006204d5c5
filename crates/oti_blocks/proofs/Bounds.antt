-- What sound transmission information keeps, whatever its scheme.
use Rattle.std.proofs.Common.{ℕ, ◌*◌, ◌/◌, ◌^◌, ◌<◌, ◌≤◌, arith}
use Rattle.std.proofs.Math.Nat.{le-div_iff_mul-le, div-mul-le_self, div-le_of_le-mul, mul-le-mul_left, mul-le-mul_right}
use Rattle.std.proofs.lemmas.Nat.{le-div}
use Rattle.oti_blocks.specs.Information.{IsInBounds}
use Rattle.oti_blocks.specs.Scheme.{length_of, symbol_of, max_block_of, most_encoding}
use Rattle.oti_blocks.specs.Partition.{ObjectInformation, IsSound, sources, blocks, encoding_count}

pub bounds : (o : ObjectInformation) → IsSound o → IsInBounds (length_of o) (symbol_of o) (max_block_of o)
bounds o sound = record {
  long = sound.long;
  length_fits = sound.length_fits;
  some_symbol = sound.some_symbol;
  symbol_fits = sound.symbol_fits;
  some_block = sound.some_block;
}

-- the numbers of blocks have 24 bits
pub few_blocks : (o : ObjectInformation) → IsSound o → blocks o ≤ 2 ^ 24
unfolding blocks sources
few_blocks o sound = sound.few_blocks

-- as many encoding symbols may be stated as source symbols
pub max_block_within : (o : ObjectInformation) → IsSound o → max_block_of o ≤ most_encoding o
max_block_within o sound = sound.block_within

-- more source symbols give no fewer encoding symbols
pub encoding_rises : (o : ObjectInformation) → IsSound o → (k l : ℕ) → k ≤ l → encoding_count o k ≤ encoding_count o l
unfolding encoding_count
encoding_rises o sound k l le =
    let product : k * o.max_n / o.max_block * o.max_block ≤ l * o.max_n =
    omega (arith, div-mul-le_self (k * o.max_n) o.max_block, mul-le-mul_right o.max_n le) in
    le-div (k * o.max_n / o.max_block) (l * o.max_n) o.max_block (omega (arith, sound.some_block)) product

-- a block has no fewer encoding symbols than source symbols, and no more than are stated
pub encoding_bounds : (o : ObjectInformation) → IsSound o → (k : ℕ) → k ≤ max_block_of o → (k ≤ encoding_count o k) × (encoding_count o k ≤ most_encoding o)
unfolding encoding_count
encoding_bounds o sound k le =
    let low : k * o.max_block ≤ k * o.max_n = mul-le-mul_left k sound.block_within in
    let high : k * o.max_n ≤ o.max_block * o.max_n = mul-le-mul_right o.max_n le in
    let some : 0 < o.max_block = omega (arith, sound.some_block) in
    ((le-div_iff_mul-le some).1 low, div-le_of_le-mul o.max_block high)
