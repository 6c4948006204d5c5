-- The sizes of blocks as a list.
use Rattle.std.proofs.Common.{◌≡◌, ℕ, zero, suc, ◌+◌, ◌-◌, ◌*◌, ◌^◌, ◌<◌, ◌≤◌, min, List, ◌++◌, length, take, replicate, sum, refl, sym, ap, ◌∙◌, arith, inl, inr}
use Rattle.std.proofs.lemmas.Bool.{cases_lt}
use Rattle.std.proofs.lemmas.List.{length-append, length-replicate, take-replicate, take-append-le, get_or-replicate, get_or_append_left, get_or-append_right}
use Rattle.std.proofs.lemmas.List.Sums.{sum_by-append, sum_by_more, sum_by_more_le}
use Rattle.std.proofs.lemmas.List.Folds.{sum_by-replicate}
use Rattle.std.proofs.Math.Seq.{take-append-add, take-length}
use Rattle.oti_blocks.specs.Partition.{ObjectInformation, IsSound, sources, blocks, large, small, large_count, sizes, size_at, start_at, encoding_at, HasSource, max_block_of, most_encoding}
use Rattle.oti_blocks.proofs.Quotients.{sources_le, sources_split, small_pos, small_le_large, large_le}
use Rattle.oti_blocks.proofs.Bounds.{encoding_rises, encoding_bounds}

-- I blocks of one source symbol more
total_of : (i rest a : ℕ) → suc i * (a + 1) + rest * a ≡ a * (suc i + rest) + suc i
total_of i rest a = omega arith

total : (n i a : ℕ) → i ≤ n → i * (a + min 1 i) + (n - i) * a ≡ a * n + i
total n zero a le = let all : n - 0 ≡ n = omega arith in rw all (omega arith)
total n (suc i) a le =
    let one : min 1 (suc i) ≡ 1 = omega arith in
    let all : suc i + (n - suc i) ≡ n = omega arith in
    rw one (total_of i (n - suc i) a ∙ ap (λ m. a * m + suc i) all)

-- there are as many sizes as blocks
pub length-sizes : (o : ObjectInformation) → IsSound o → length (sizes o) ≡ blocks o
unfolding sizes
length-sizes o sound =
    let parts = sources_split o sound in
    simp (length-append, length-replicate) (omega (arith, parts.1))

-- the sizes add up to all source symbols
pub sum-sizes : (o : ObjectInformation) → IsSound o → sum (sizes o) ≡ sources o
unfolding sizes
sum-sizes o sound =
    let parts = sources_split o sound in
    sum_by-append (λ n. n) (replicate (large_count o) (large o)) (replicate (blocks o - large_count o) (small o))
    ∙ rw (sum_by-replicate (λ n. n) (large_count o) (large o), sum_by-replicate (λ n. n) (blocks o - large_count o) (small o), parts.2)
    (total (blocks o) (large_count o) (small o) (omega (arith, parts.1)) ∙ parts.0)

-- ---- one block

-- a larger block
pub size_front : (o : ObjectInformation) (b : ℕ) → b < large_count o → size_at o b ≡ large o
unfolding sizes
size_front o b lt =
    get_or_append_left (replicate (large_count o) (large o))
    (replicate (blocks o - large_count o) (small o)) 0 b (omega (arith, length-replicate (large_count o) (large o)))
    ∙ get_or-replicate (large_count o) b (large o) 0 lt

-- a smaller block
pub size_back : (o : ObjectInformation) (b : ℕ) → large_count o ≤ b → b < blocks o → size_at o b ≡ small o
unfolding sizes
size_back o b ge lt =
    get_or-append_right (replicate (large_count o) (large o)) (replicate (blocks o - large_count o) (small o))
    (large_count o) b 0 (length-replicate (large_count o) (large o)) ge
    ∙ get_or-replicate (blocks o - large_count o) (b - large_count o) (small o) 0 (omega arith)

-- each block has source symbols, and not too many
pub size_bounds : (o : ObjectInformation) → IsSound o → (b : ℕ) → b < blocks o → (1 ≤ size_at o b) × (size_at o b ≤ (max_block_of o))
size_bounds o sound b lt =
    let some = small_pos o sound in
    let order = small_le_large o sound in
    let most = large_le o sound in
    elim (cases_lt b (large_count o)) [
      | inl front ↦ (omega (arith, size_front o b front, some, order), omega (arith, size_front o b front, most))
      | inr back ↦ (omega (arith, size_back o b back lt, some), omega (arith, size_back o b back lt, order, most))
    ]

-- and encoding symbols, at least as many and not too many
pub encoding_at_bounds : (o : ObjectInformation) → IsSound o → (b : ℕ) → b < blocks o → (size_at o b ≤ encoding_at o b) × (encoding_at o b ≤ most_encoding o)
encoding_at_bounds o sound b lt = encoding_bounds o sound (size_at o b) (size_bounds o sound b lt).1

-- a later block is no larger: the larger ones come first
pub size_falls : (o : ObjectInformation) → IsSound o → (b c : ℕ) → b ≤ c → c < blocks o → size_at o c ≤ size_at o b
size_falls o sound b c le lt =
    let order = small_le_large o sound in
    elim (cases_lt c (large_count o)) [
      | inl front ↦ omega (arith, size_front o c front, size_front o b (omega (arith, front, le)))
      | inr back ↦ elim (cases_lt b (large_count o)) [
        | inl front ↦ omega (arith, size_back o c back lt, size_front o b front, order)
        | inr both ↦ omega (arith, size_back o c back lt, size_back o b both (omega (arith, le, lt)))
      ]
    ]

pub encoding_falls : (o : ObjectInformation) → IsSound o → (b c : ℕ) → b ≤ c → c < blocks o → encoding_at o c ≤ encoding_at o b
encoding_falls o sound b c le lt = encoding_rises o sound (size_at o c) (size_at o b) (size_falls o sound b c le lt)

-- the start of a larger block, and of the first smaller one
pub start_front : (o : ObjectInformation) (b : ℕ) → b ≤ large_count o → start_at o b ≡ b * large o
unfolding sizes
start_front o b le =
    let L = replicate (large_count o) (large o) in
    let S = replicate (blocks o - large_count o) (small o) in
    ap sum (take-append-le b L S (omega (arith, length-replicate (large_count o) (large o))))
    ∙ ap sum (take-replicate b (large_count o) (large o) le)
    ∙ sum_by-replicate (λ n. n) b (large o)

-- the start of a smaller block
pub start_back : (o : ObjectInformation) (b : ℕ) → large_count o ≤ b → b ≤ blocks o → start_at o b ≡ large_count o * large o + (b - large_count o) * small o
unfolding sizes
start_back o b ge le =
    let L = replicate (large_count o) (large o) in
    let S = replicate (blocks o - large_count o) (small o) in
    let at : b ≡ length L + (b - large_count o) = omega (arith, length-replicate (large_count o) (large o)) in
    ap (λ n. sum (take n (L ++ S))) at
    ∙ ap sum (take-append-add L S (b - large_count o))
    ∙ ap (λ (xs : List ℕ). sum (L ++ xs)) (take-replicate (b - large_count o) (blocks o - large_count o) (small o) (omega arith))
    ∙ sum_by-append (λ n. n) L (replicate (b - large_count o) (small o))
    ∙ rw (sum_by-replicate (λ n. n) (large_count o) (large o), sum_by-replicate (λ n. n) (b - large_count o) (small o)) refl

-- ---- the block of a source symbol

-- where the next block starts
pub start-next : (o : ObjectInformation) → IsSound o → (b : ℕ) → b < blocks o → start_at o (b + 1) ≡ start_at o b + size_at o b
start-next o sound b lt = sum_by_more (λ n. n) (sizes o) b 0 (omega (arith, length-sizes o sound))

-- behind the last block all source symbols are
pub start_last : (o : ObjectInformation) → IsSound o → start_at o (blocks o) ≡ sources o
start_last o sound = ap (λ n. sum (take n (sizes o))) (sym (length-sizes o sound)) ∙ ap sum (take-length (sizes o)) ∙ sum-sizes o sound

-- no block ends past the object
pub block_end : (o : ObjectInformation) → IsSound o → (b : ℕ) → b < blocks o → start_at o b + size_at o b ≤ sources o
block_end o sound b lt = rw (← sum-sizes o sound) (sum_by_more_le (λ n. n) (sizes o) b 0 (omega (arith, length-sizes o sound)))

-- so a start is no large number
pub start_fits : (o : ObjectInformation) → IsSound o → (b : ℕ) → b < blocks o → start_at o b < 2 ^ 48
start_fits o sound b lt = omega (arith, block_end o sound b lt, sources_le o sound)

-- a later block starts behind the end of an earlier one
pub ends_before : (o : ObjectInformation) → IsSound o → (c b : ℕ) → b < c → c ≤ blocks o → start_at o b + size_at o b ≤ start_at o c
ends_before o sound zero b lt le = absurd (omega arith)
ends_before o sound (suc c) b lt le =
    let next : start_at o (c + 1) ≡ start_at o c + size_at o c = start-next o sound c (omega arith) in
    let one : suc c ≡ c + 1 = omega arith in
    let same : start_at o (suc c) ≡ start_at o (c + 1) = ap (start_at o) one in
    elim (cases_lt b c) [
      | inl earlier ↦ omega (arith, ends_before o sound c b earlier (omega arith), next, same)
      | inr last ↦
          let is : b ≡ c = omega arith in
          let end : start_at o b + size_at o b ≡ start_at o c + size_at o c = ap (λ n. start_at o n + size_at o n) is in
          omega (arith, end, next, same)
    ]

-- among the first n blocks, where these don't end before it
found_below : (o : ObjectInformation) → IsSound o → (s n : ℕ) → n ≤ blocks o → s < start_at o n → (b : ℕ) × HasSource o b s
found_below o sound s zero le lt = absurd (omega arith)
found_below o sound s (suc n) le lt =
    let next : start_at o (n + 1) ≡ start_at o n + size_at o n = start-next o sound n (omega arith) in
    let one : suc n ≡ n + 1 = omega arith in
    let same : start_at o (suc n) ≡ start_at o (n + 1) = ap (start_at o) one in
    elim (cases_lt s (start_at o n)) [
      | inl earlier ↦ found_below o sound s n (omega arith) earlier
      | inr from ↦ (n, record { block = omega arith; from = from; before = omega (arith, next, same, lt) })
    ]

-- each source symbol is in a block
pub found : (o : ObjectInformation) → IsSound o → (s : ℕ) → s < sources o → (b : ℕ) × HasSource o b s
found o sound s lt =
    let whole : start_at o (blocks o) ≡ sources o = start_last o sound in
    found_below o sound s (blocks o) (omega arith) (omega (arith, whole, lt))

-- and in no other
pub alone : (o : ObjectInformation) → IsSound o → (s b c : ℕ) → HasSource o b s → HasSource o c s → c ≡ b
alone o sound s b c in_b in_c =
    elim (cases_lt b c) [
      | inl less ↦ absurd (omega (arith, ends_before o sound c b less (omega (arith, in_c.block)), in_b.before, in_c.from))
      | inr ge ↦ elim (cases_lt c b) [
        | inl less ↦ absurd (omega (arith, ends_before o sound b c less (omega (arith, in_b.block)), in_c.before, in_b.from))
        | inr le ↦ omega arith
      ]
    ]
