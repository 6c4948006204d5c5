-- Values of polynomials by Horner's rule, from the last coefficient on, which the proofs go by.
use Rattle.std.proofs.Common.{◌≡◌, ℕ, suc, ◌<◌, List, [], ◌∷◌, length, refl, sym, ap, ap₂, ◌∙◌, arith}
use Rattle.std.specs.Prelude.{bit_xor}
use Rattle.std.proofs.lemmas.List.Elements.{All-head, All-tail, All-cons}
use Rattle.gf256.specs.Field.{IsByte, product}
use Rattle.gf256.specs.Polynomial.{value, value_from, AreBytes}
use Rattle.gf256.specs.Row.{added_row}
use Rattle.gf256.proofs.Sums.{sum_lt, sum_swap}
use Rattle.gf256.proofs.Products.{product_lt, product_comm, product_assoc, product_sum, one_product, product_zero}

-- the value at x
unfoldable pub horner : List ℕ → ℕ → ℕ
horner [] x = 0
horner (c ∷ cs) x = bit_xor c (product x (horner cs x))

-- the first coefficient is an element
pub head_byte : (c : ℕ) (cs : List ℕ) → AreBytes (c ∷ cs) → c < 256
head_byte c cs bytes = All-head IsByte c cs bytes

-- so are the others
pub tail_bytes : (c : ℕ) (cs : List ℕ) → AreBytes (c ∷ cs) → AreBytes cs
tail_bytes c cs bytes = All-tail IsByte c cs bytes

-- a value is an element
pub horner_lt : (cs : List ℕ) (x : ℕ) → AreBytes cs → x < 256 → horner cs x < 256
unfolding horner
horner_lt [] x bytes lx = omega arith
horner_lt (c ∷ cs) x bytes lx = sum_lt c _ (head_byte c cs bytes) (product_lt x (horner cs x) lx)

-- the sum from the power p on is p times the value
value_from_is : (p : ℕ) (cs : List ℕ) (x : ℕ) → p < 256 → AreBytes cs → x < 256 → value_from p cs x ≡ product p (horner cs x)
unfolding horner
value_from_is p [] x lp bytes lx = sym (product_zero p lp)
value_from_is p (c ∷ cs) x lp bytes lx =
    let lc : c < 256 = head_byte c cs bytes in
    let rest : AreBytes cs = tail_bytes c cs bytes in
    ap₂ bit_xor (product_comm c p lc lp)
    (value_from_is (product p x) cs x (product_lt p x lp) rest lx ∙ product_assoc p x (horner cs x) lp lx)
    ∙ sym (product_sum p c _ lp lc (product_lt x (horner cs x) lx))

-- Horner's rule gives the value
pub value_is_horner : (cs : List ℕ) (x : ℕ) → AreBytes cs → x < 256 → value cs x ≡ horner cs x
value_is_horner cs x bytes lx = value_from_is 1 cs x (omega arith) bytes lx ∙ one_product _ (horner_lt cs x bytes lx)

-- a value is an element
pub value_lt : (cs : List ℕ) (x : ℕ) → AreBytes cs → x < 256 → value cs x < 256
value_lt cs x bytes lx = let is : value cs x ≡ horner cs x = value_is_horner cs x bytes lx in let less : horner cs x < 256 = horner_lt cs x bytes lx in omega arith

-- the length of a sum of rows is that of the row that is added to
pub length-added_row : (by : ℕ) (src dst : List ℕ) → length (added_row by src dst) ≡ length dst
length-added_row by [] dst = refl
length-added_row by (s ∷ src) [] = refl
length-added_row by (s ∷ src) (d ∷ dst) = ap suc (length-added_row by src dst)

-- a sum of rows of elements is a row of elements
pub added_row_bytes : (by : ℕ) (src dst : List ℕ) → by < 256 → AreBytes dst → AreBytes (added_row by src dst)
added_row_bytes by [] dst lb bytes = bytes
added_row_bytes by (s ∷ src) [] lb bytes = bytes
added_row_bytes by (s ∷ src) (d ∷ dst) lb bytes =
    All-cons IsByte _ _ (sum_lt d (product by s) (head_byte d dst bytes) (product_lt by s lb))
    (added_row_bytes by src dst lb (tail_bytes d dst bytes))

-- the same of Horner's rule as `value-added_row` says of the value
horner-added_row : (by : ℕ) (src dst : List ℕ) (x : ℕ) → by < 256 → AreBytes src → AreBytes dst → x < 256 → length src ≡ length dst
    → horner (added_row by src dst) x ≡ bit_xor (horner dst x) (product by (horner src x))
unfolding horner
horner-added_row by [] [] x lb bs bd lx same = sym (product_zero by lb)
horner-added_row by [] (d ∷ dst) x lb bs bd lx same = absurd (omega arith)
horner-added_row by (s ∷ src) [] x lb bs bd lx same = absurd (omega arith)
horner-added_row by (s ∷ src) (d ∷ dst) x lb bs bd lx same =
    let ls : s < 256 = head_byte s src bs in
    let ts : AreBytes src = tail_bytes s src bs in
    let td : AreBytes dst = tail_bytes d dst bd in
    let hs : horner src x < 256 = horner_lt src x ts lx in
    let hd : horner dst x < 256 = horner_lt dst x td lx in
    let inner : product x (horner (added_row by src dst) x) ≡ bit_xor (product x (horner dst x)) (product by (product x (horner src x))) =
    ap (product x) (horner-added_row by src dst x lb ts td lx (omega arith))
    ∙ product_sum x _ _ lx hd (product_lt by _ lb)
    ∙ ap (bit_xor (product x (horner dst x)))
    (sym (product_assoc x by (horner src x) lx lb) ∙ ap (λ t. product t (horner src x)) (product_comm x by lx lb) ∙ product_assoc by x (horner src x) lb lx)
    in
    ap (bit_xor (bit_xor d (product by s))) inner
    ∙ sum_swap d (product by s) (product x (horner dst x)) (product by (product x (horner src x)))
    ∙ ap (bit_xor (bit_xor d (product x (horner dst x)))) (sym (product_sum by s _ lb ls (product_lt x _ lx)))

-- the value of a sum of polynomials, the first of which is taken `by` times
pub value-added_row : (by : ℕ) (src dst : List ℕ) (x : ℕ) → by < 256 → AreBytes src → AreBytes dst → x < 256 → length src ≡ length dst
    → value (added_row by src dst) x ≡ bit_xor (value dst x) (product by (value src x))
value-added_row by src dst x lb bs bd lx same =
    value_is_horner (added_row by src dst) x (added_row_bytes by src dst lb bd) lx
    ∙ horner-added_row by src dst x lb bs bd lx same
    ∙ sym (ap₂ (λ u v. bit_xor u (product by v)) (value_is_horner dst x bd lx) (value_is_horner src x bs lx))
