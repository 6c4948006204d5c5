-- Sums of rows, element by element and sixteen elements at a time.
use Rattle.std.proofs.Common.{◌≡◌, ℕ, zero, suc, ◌+◌, ◌<◌, ◌≤◌, List, [], ◌∷◌, length, get_or, take, set, map, refl, ap, ◌∙◌, arith}
use Rattle.std.specs.Prelude.{bit_xor}
use lib.Lanes.{chunk, put_chunk, zip2}
use Rattle.gf256.specs.Field.{product}
use Rattle.gf256.specs.Row.{added_row}

-- the element at a place of both rows
pub get_or-added_row : (by k : ℕ) (src dst : List ℕ) → k < length src → k < length dst
    → get_or (added_row by src dst) k 0 ≡ bit_xor (get_or dst k 0) (product by (get_or src k 0))
get_or-added_row by k [] dst ls ld = absurd (omega arith)
get_or-added_row by k (s ∷ src) [] ls ld = absurd (omega arith)
get_or-added_row by zero (s ∷ src) (d ∷ dst) ls ld = refl
get_or-added_row by (suc k) (s ∷ src) (d ∷ dst) ls ld = get_or-added_row by k src dst (omega arith) (omega arith)

-- one more element added
pub added_row_more : (by k : ℕ) (src dst : List ℕ) → k < length src → k < length dst
    → set (added_row by (take k src) dst) k (bit_xor (get_or (added_row by (take k src) dst) k 0) (product by (get_or src k 0))) ≡ added_row by (take (suc k) src) dst
added_row_more by k [] dst ls ld = absurd (omega arith)
added_row_more by k (s ∷ src) [] ls ld = absurd (omega arith)
added_row_more by zero (s ∷ src) (d ∷ dst) ls ld = refl
added_row_more by (suc k) (s ∷ src) (d ∷ dst) ls ld = ap (λ xs. bit_xor d (product by s) ∷ xs) (added_row_more by k src dst (omega arith) (omega arith))

-- the first n elements added at once
added_row_front : (by n : ℕ) (src dst : List ℕ) → n ≤ length src → n ≤ length dst
    → put_chunk 0 dst (zip2 bit_xor (take n dst) (map (product by) (take n src))) ≡ added_row by (take n src) dst
added_row_front by zero src [] ls ld = refl
added_row_front by zero src (d ∷ dst) ls ld = refl
added_row_front by (suc n) [] dst ls ld = absurd (omega arith)
added_row_front by (suc n) (s ∷ src) [] ls ld = absurd (omega arith)
added_row_front by (suc n) (s ∷ src) (d ∷ dst) ls ld = ap (λ xs. bit_xor d (product by s) ∷ xs) (added_row_front by n src dst (omega arith) (omega arith))

-- n more elements added at once
pub added_row_chunk : (by k n m : ℕ) (src dst : List ℕ) → m ≡ k + n → m ≤ length src → m ≤ length dst
    → put_chunk k (added_row by (take k src) dst)
    (zip2 bit_xor (chunk k n (added_row by (take k src) dst)) (map (product by) (chunk k n src))) ≡ added_row by (take m src) dst
added_row_chunk by zero n m src dst is ls ld =
    let same : n ≡ m = omega arith in added_row_front by n src dst (omega arith) (omega arith) ∙ ap (λ a. added_row by (take a src) dst) same
added_row_chunk by (suc k) n m [] dst is ls ld = absurd (omega arith)
added_row_chunk by (suc k) n m (s ∷ src) [] is ls ld = absurd (omega arith)
added_row_chunk by (suc k) n zero (s ∷ src) (d ∷ dst) is ls ld = absurd (omega arith)
added_row_chunk by (suc k) n (suc m) (s ∷ src) (d ∷ dst) is ls ld =
    ap (λ xs. bit_xor d (product by s) ∷ xs) (added_row_chunk by k n m src dst (omega arith) (omega arith) (omega arith))
