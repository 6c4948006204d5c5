-- The bytes of rows, one after another.
use Rattle.std.proofs.Common.{◌≡◌, ℕ, ◌+◌, ◌-◌, ◌*◌, ◌<◌, ◌≤◌, List, ◌++◌, length, get_or, take, drop, refl, sym, ap, ◌∙◌, arith}
use Rattle.std.proofs.Common.{get_or-take, get_or-drop, length-take, length-drop, length-append}
use Rattle.std.proofs.lemmas.Nat.{row_fits}
use Rattle.std.proofs.lemmas.List.{drop-take}
use Rattle.std.proofs.lemmas.Slice.{take-put_mid_below, between-put_mid}
use borrow.Rule.Slice.PartMut.{put_mid}
use Rattle.rs_code.specs.SourceRows.{column, cut}
use Rattle.rs_code.proofs.Public.{get_or-column}
use Rattle.rs_solve.specs.Solution.{row_at}

-- a row lies within the rows
pub row_within : (k size i n : ℕ) → n ≡ k * size → i < k → i * size + size ≤ n
row_within k size i n whole less = omega (arith, row_fits i size k size less (omega arith))

-- it has `size` bytes
pub length-row_at : (k size i : ℕ) (rows : List ℕ) → length rows ≡ k * size → i < k → length (row_at size rows i) ≡ size
length-row_at k size i rows whole less =
    let within : i * size + size ≤ length rows = row_within k size i (length rows) whole less in
    omega (arith, length-take size (drop (i * size) rows), length-drop (i * size) rows)

-- its byte at a place is in the column of that place
pub byte_of_row : (k size i at : ℕ) (rows : List ℕ) → i < k → at < size → get_or (row_at size rows i) at 0 ≡ get_or (column (cut k size rows) at) i 0
byte_of_row k size i at rows less within =
    get_or-take size (drop (i * size) rows) at 0 within ∙ get_or-drop (i * size) rows at 0 ∙ sym (get_or-column k size at i rows less within)

-- after a write to row m, a row before it is as it was
pub row_before : (size m j k : ℕ) (block row : List ℕ) → j < m → m * size ≤ length block → row_at size (put_mid (m * size) k block row) j ≡ row_at size block j
row_before size m j k block row less within =
    sym (drop-take (j * size) size (put_mid (m * size) k block row))
    ∙ ap (drop (j * size)) (take-put_mid_below (m * size) k block row (j * size + size) (row_within m size j (m * size) refl less) within)
    ∙ drop-take (j * size) size block

-- and row m is what was written
pub row_here : (size m : ℕ) (block row : List ℕ) → m * size ≤ length block → length row ≡ size
    → row_at size (put_mid (m * size) (m * size + size - m * size) block row) m ≡ row
row_here size m block row within long =
    let same : m * size + size - m * size ≡ size = omega arith in
    let a : ℕ = m * size in
    ap (λ n. take n (drop a (put_mid a (a + size - a) block row))) (sym same) ∙ between-put_mid a (a + size - a) block row (a + size) within (long ∙ sym same)

-- a write of a part leaves the length
pub length-put_mid : (a k : ℕ) (xs ys : List ℕ) → a + k ≤ length xs → length ys ≡ k → length (put_mid a k xs ys) ≡ length xs
length-put_mid a k xs ys within long =
    omega (
      arith,
      length-append (take a xs) (ys ++ drop k (drop a xs)),
      length-append ys (drop k (drop a xs)),
      length-take a xs,
      length-drop k (drop a xs),
      length-drop a xs,
    )
