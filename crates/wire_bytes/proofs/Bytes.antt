-- Lists of bytes, and their parts.
use Rattle.std.proofs.Common.{◌≡◌, ℕ, zero, suc, ◌+◌, ◌-◌, ◌<◌, ◌≤◌, true, List, [], ◌∷◌, ◌++◌, length, get_or, take, drop}
use Rattle.std.proofs.Common.{replicate, refl, sym, ap, ◌∙◌, arith, inl, inr, All, ◌==◌, eqb}
use Rattle.std.proofs.lemmas.Bool.{cases_lt, eqb-true, eq-eqb, and_parts, and_from}
use Rattle.std.proofs.lemmas.List.{get_or-drop, get_or-take, get_or_past, length-take, length-drop, length-append}
use Rattle.std.proofs.lemmas.List.{length-replicate, append-nil, take_at, take-append-drop, drop-drop}
use Rattle.std.proofs.lemmas.List.Elements.{All-append}
use Rattle.wire_bytes.specs.Bytes.{IsByte, AreBytes, are_zero, zero_filled}

-- ---- bytes by their places

-- what stands at a place is a byte, also past the end, where 0 is taken
pub byte_at_place : (xs : List ℕ) → AreBytes xs → (i : ℕ) → get_or xs i 0 < 256
byte_at_place xs bytes i = elim (cases_lt i (length xs)) [
  | inl lt ↦ bytes i 0 lt
  | inr le ↦ rw (get_or_past xs i 0 le) (omega arith)
]

-- and the other way round
pub bytes_by_place : (xs : List ℕ) → ((i : ℕ) → get_or xs i 0 < 256) → AreBytes xs
bytes_by_place (x ∷ xs) fits zero d lt = fits 0
bytes_by_place (x ∷ xs) fits (suc i) d lt = bytes_by_place xs (λ k. fits (suc k)) i d (omega arith)
bytes_by_place [] fits i d lt = absurd (omega arith)

pub bytes_drop : (n : ℕ) (xs : List ℕ) → AreBytes xs → AreBytes (drop n xs)
bytes_drop n xs bytes = bytes_by_place (drop n xs) (λ i. rw get_or-drop (byte_at_place xs bytes (n + i)))

pub bytes_take : (n : ℕ) (xs : List ℕ) → AreBytes xs → AreBytes (take n xs)
bytes_take n xs bytes = bytes_by_place (take n xs) (λ i. elim (cases_lt i n) [
  | inl lt ↦ rw (get_or-take n xs i 0 lt) (byte_at_place xs bytes i)
  | inr le ↦ rw (get_or_past (take n xs) i 0 (omega (arith, length-take n xs))) (omega arith)
])

-- ---- bytes cut into pieces

-- the bytes from a place on are those up to the next place, and what stands from there on
pub cut_at : (at next : ℕ) (xs : List ℕ) → at ≤ next → drop at xs ≡ take (next - at) (drop at xs) ++ drop next xs
cut_at at next xs le =
    let same : at + (next - at) ≡ next = omega arith in
    sym (take-append-drop (next - at) (drop at xs))
    ∙ ap (λ (ys : List ℕ). take (next - at) (drop at xs) ++ ys) (drop-drop (next - at) at xs ∙ ap (λ (n : ℕ). drop n xs) same)

-- the length of such a piece
pub length_piece : (at next : ℕ) (xs : List ℕ) → at ≤ next → next ≤ length xs → length (take (next - at) (drop at xs)) ≡ next - at
length_piece at next xs le within = omega (arith, length-take (next - at) (drop at xs), length-drop at xs)

-- ---- zeros

pub zeros_from_test : (xs : List ℕ) → are_zero xs ≡ true → All (λ x. x ≡ 0) xs
zeros_from_test [] e k d lt = absurd (omega arith)
zeros_from_test (x ∷ xs) e zero d lt = eqb-true x 0 (and_parts (eqb x 0) (are_zero xs) e).0
zeros_from_test (x ∷ xs) e (suc k) d lt = zeros_from_test xs (and_parts (eqb x 0) (are_zero xs) e).1 k d (omega arith)

pub test_from_zeros : (xs : List ℕ) → All (λ x. x ≡ 0) xs → are_zero xs ≡ true
test_from_zeros [] zeros = refl
test_from_zeros (x ∷ xs) zeros = and_from (eqb x 0) (are_zero xs) (eq-eqb x 0 (zeros 0 0 (omega arith))) (test_from_zeros xs (λ k d lt. zeros (suc k) d (omega arith)))

-- zeros are so many times zero
pub zeros_are : (xs : List ℕ) → are_zero xs ≡ true → xs ≡ replicate (length xs) 0
zeros_are [] e = refl
zeros_are (x ∷ xs) e =
    let parts = and_parts (x == 0) (are_zero xs) e in
    ap (λ y. y ∷ xs) (eqb-true x 0 parts.0) ∙ ap (λ (ys : List ℕ). 0 ∷ ys) (zeros_are xs parts.1)

pub replicated_zeros : (n : ℕ) → are_zero (replicate n 0) ≡ true
replicated_zeros zero = refl
replicated_zeros (suc n) = replicated_zeros n

-- ---- zero fill

pub length_filled : (size : ℕ) (xs : List ℕ) → length xs ≤ size → length (zero_filled size xs) ≡ size
unfolding zero_filled
length_filled size xs le = omega (arith, length-append xs (replicate (size - length xs) 0), length-replicate {A = ℕ} (size - length xs) 0)

-- what is whole isn't filled
pub filled_whole : (size : ℕ) (xs : List ℕ) → size ≤ length xs → zero_filled size xs ≡ xs
unfolding zero_filled
filled_whole size xs le =
    let none : size - length xs ≡ 0 = omega arith in
    ap (λ (n : ℕ). xs ++ replicate n 0) none ∙ append-nil xs

-- the bytes stand at the front of what is filled
pub front_filled : (size : ℕ) (xs : List ℕ) → take (length xs) (zero_filled size xs) ≡ xs
unfolding zero_filled
front_filled size xs = take_at xs (replicate (size - length xs) 0) (length xs) refl

zero_bytes : (n : ℕ) → AreBytes (replicate n 0)
zero_bytes (suc n) zero d lt = omega arith
zero_bytes (suc n) (suc i) d lt = zero_bytes n i d (omega arith)
zero_bytes zero i d lt = absurd (omega arith)

pub bytes_filled : (size : ℕ) (xs : List ℕ) → AreBytes xs → AreBytes (zero_filled size xs)
unfolding zero_filled
bytes_filled size xs bytes = All-append IsByte xs (replicate (size - length xs) 0) bytes (zero_bytes (size - length xs))
