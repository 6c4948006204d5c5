-- The bytes of rows that are cut from a list, and their columns.
use Rattle.std.proofs.Common.{◌≡◌, ℕ, zero, suc, ◌+◌, ◌*◌, ◌<◌, List, length, get_or, drop, refl, sym, ap, ◌∙◌, subst, arith, get_or-take, get_or-drop}
use Rattle.std.proofs.lemmas.Nat.{mul-add-lt}
use Rattle.std.proofs.lemmas.List.{get_or_default}
use Rattle.gf256.specs.Polynomial.{AreBytes}
use Rattle.rs_code.specs.SourceRows.{cut, column}

-- as many bytes as rows
pub length-column : (k size at : ℕ) (bytes : List ℕ) → length (column (cut k size bytes) at) ≡ k
length-column zero size at bytes = refl
length-column (suc k) size at bytes = ap suc (length-column k size at (drop size bytes))

-- byte i of the column at a place is the byte at that place of row i
pub get_or-column : (k size at i : ℕ) (bytes : List ℕ) → i < k → at < size → get_or (column (cut k size bytes) at) i 0 ≡ get_or bytes (i * size + at) 0
get_or-column zero size at i bytes less within = absurd (omega arith)
get_or-column (suc k) size at zero bytes less within =
    let is : at ≡ 0 * size + at = omega arith in get_or-take size bytes at 0 within ∙ ap (λ n. get_or bytes n 0) is
get_or-column (suc k) size at (suc i) bytes less within =
    let is : size + (i * size + at) ≡ suc i * size + at = omega arith in
    get_or-column k size at i (drop size bytes) (omega arith) within
    ∙ get_or-drop size bytes (i * size + at) 0 ∙ ap (λ n. get_or bytes n 0) is

-- a place of a row is a place of the bytes
pub place_within : (k size at i n : ℕ) → n ≡ k * size → i < k → at < size → i * size + at < n
place_within k size at i n whole less within = omega (arith, mul-add-lt i size at k less within)

-- a column of bytes is one of bytes
pub column_bytes : (k size at : ℕ) (bytes : List ℕ) → AreBytes bytes → length bytes ≡ k * size → at < size → AreBytes (column (cut k size bytes) at)
column_bytes k size at bytes all whole within i d less =
    let len : length (column (cut k size bytes) at) ≡ k = length-column k size at bytes in
    let li : i < k = omega arith in
    subst (λ (t : ℕ). t < 256)
    (sym (get_or_default (column (cut k size bytes) at) i d 0 less ∙ get_or-column k size at i bytes li within))
    (all (i * size + at) 0 (place_within k size at i (length bytes) whole li within))
