-- The source rows of a block, as bytes of its object.
use Rattle.std.proofs.Common.{◌≡◌, ℕ, zero, suc, ◌+◌, ◌-◌, ◌*◌, ◌^◌, ◌<◌, ◌≤◌, List, [], ◌∷◌, ◌++◌, length, get_or, drop, refl, sym, ap, ◌∙◌, subst, arith, get_or-drop}
use Rattle.std.specs.Prelude.{replicate}
use Rattle.std.proofs.Math.Nat.{mul-le-mul_left, mul-le-mul_right}
use Rattle.std.proofs.lemmas.List.{get_or_default}
use Rattle.wire_bytes.specs.Bytes.{AreBytes, zero_filled}
use Rattle.wire_bytes.proofs.Public.{byte_at_place}
use Rattle.oti_blocks.specs.Partition.{ObjectInformation, IsSound, sources, blocks, size_at, start_at, length_of, symbol_of}
use Rattle.oti_blocks.specs.Sent.{Sent, IsSent, filled, block_rows}
use Rattle.oti_blocks.proofs.Public.{bounds, last_length_bounds, sources_bounds, size_bounds, block_end}
use Rattle.rs_code.specs.SourceRows.{column}
use Rattle.rs_code.proofs.Public.{length-column, get_or-column}

-- a source symbol starts within the object
pub starts_within : (o : ObjectInformation) (n : ℕ) → IsSound o → n < sources o → n * symbol_of o ≤ length_of o
starts_within o n sound less =
    let last : n * symbol_of o ≤ (sources o - 1) * symbol_of o = mul-le-mul_right (symbol_of o) (omega arith) in
    omega (arith, last, (last_length_bounds o sound).0)

-- and a source symbol of a block is one of the object
pub source_within : (o : ObjectInformation) (b i : ℕ) → IsSound o → b < blocks o → i < size_at o b → start_at o b + i < sources o
source_within o b i sound block less = omega (arith, block_end o sound b block, less)

-- there are not many
pub sources_fit : (o : ObjectInformation) → IsSound o → sources o < 2 ^ 49
sources_fit o sound =
    let most : sources o * 1 ≤ sources o * symbol_of o = mul-le-mul_left (sources o) (bounds o sound).some_symbol in
    omega (arith, most, (sources_bounds o sound).1, (bounds o sound).length_fits, (bounds o sound).symbol_fits)

-- zeros behind bytes don't show
zero_at : (n i : ℕ) → get_or {A = ℕ} (replicate n 0) i 0 ≡ 0
zero_at zero i = refl
zero_at (suc n) zero = refl
zero_at (suc n) (suc i) = zero_at n i

behind : (xs : List ℕ) (n i : ℕ) → get_or {A = ℕ} (xs ++ replicate n 0) i 0 ≡ get_or xs i 0
behind [] n i = zero_at n i
behind (x ∷ xs) n zero = refl
behind (x ∷ xs) n (suc i) = behind xs n i

filled_at : (size i : ℕ) (xs : List ℕ) → get_or (zero_filled size xs) i 0 ≡ get_or xs i 0
unfolding zero_filled
filled_at size i xs = behind xs (size - length xs) i

-- ---- the rows

-- a block has as many rows as source symbols
pub length-block_rows : (x : Sent) (b at : ℕ) → length (column (block_rows x b) at) ≡ size_at x.oti b
unfolding block_rows
length-block_rows x b at = length-column (size_at x.oti b) (symbol_of x.oti) at (drop (start_at x.oti b * symbol_of x.oti) (filled x))

-- at most 255
pub few_rows : (x : Sent) (b : ℕ) → IsSent x → b < blocks x.oti → size_at x.oti b ≤ 255
few_rows x b is block = omega (arith, (size_bounds x.oti is.sound b block).1, is.sound.block_within, is.sound.max_n_fits)

place_of : (start i size at : ℕ) → start * size + (i * size + at) ≡ (start + i) * size + at
place_of start i size at = omega arith

-- the byte of a row is that byte of the object's source symbol, and 0 behind the object's end
pub get_or-block_rows : (x : Sent) (b i at : ℕ) → i < size_at x.oti b → at < symbol_of x.oti
    → get_or (column (block_rows x b) at) i 0 ≡ get_or x.bytes ((start_at x.oti b + i) * symbol_of x.oti + at) 0
unfolding block_rows filled
get_or-block_rows x b i at less within =
    let whole : List ℕ = zero_filled (sources x.oti * symbol_of x.oti) x.bytes in
    get_or-column (size_at x.oti b) (symbol_of x.oti) at i (drop (start_at x.oti b * symbol_of x.oti) whole) less within
    ∙ get_or-drop (start_at x.oti b * symbol_of x.oti) whole (i * symbol_of x.oti + at) 0
    ∙ filled_at (sources x.oti * symbol_of x.oti) (start_at x.oti b * symbol_of x.oti + (i * symbol_of x.oti + at)) x.bytes
    ∙ ap (λ n. get_or x.bytes n 0) (place_of (start_at x.oti b) i (symbol_of x.oti) at)

-- so the bytes of a column are bytes
pub block_rows_bytes : (x : Sent) (b at : ℕ) → IsSent x → at < symbol_of x.oti → AreBytes (column (block_rows x b) at)
block_rows_bytes x b at is within i d less =
    let len = length-block_rows x b at in
    let li : i < size_at x.oti b = omega (arith, len, less) in
    subst (λ (t : ℕ). t < 256) (sym (get_or_default (column (block_rows x b) at) i d 0 less ∙ get_or-block_rows x b i at li within))
    (byte_at_place x.bytes is.bytes ((start_at x.oti b + i) * symbol_of x.oti + at))
