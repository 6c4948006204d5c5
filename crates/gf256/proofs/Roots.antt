-- A polynomial that is not zero has fewer roots than coefficients: by division by x + r, root after root.
use Rattle.std.proofs.Common.{◌≡◌, ◌≢◌, ◌⊎◌, ℕ, suc, ◌<◌, List, [], ◌∷◌, length, get_or, refl, sym, ap, ap₂, ◌∙◌, ⊎_elim, inl, inr, arith}
use Rattle.std.specs.Prelude.{bit_xor, All}
use Rattle.std.specs.Int.Bits.{xor_self, xor_assoc, xor_zero_l, xor_zero_r}
use Rattle.std.proofs.lemmas.Nat.{xor_comm}
use Rattle.std.proofs.lemmas.Bool.{cases_eq}
use Rattle.std.proofs.lemmas.List.Elements.{All-head, All-tail, All-nil, All-cons}
use Rattle.gf256.specs.Field.{IsByte, product}
use Rattle.gf256.specs.Polynomial.{value, AreBytes, AreDifferent, AreNull, AreRoots, Agree}
use Rattle.gf256.specs.Row.{added_row}
use Rattle.gf256.proofs.Sums.{sum_lt, sum_twice, equal_from_sum}
use Rattle.gf256.proofs.Products.{product_lt, product_comm, product_assoc, product_sum, sum_product, one_product, product_zero, no_divisors}
use Rattle.gf256.proofs.Horner.{horner, head_byte, tail_bytes, horner_lt, value_is_horner, value_lt, value-added_row, added_row_bytes, length-added_row}

-- the quotient of the division by x + r
unfoldable pub quotient : ℕ → List ℕ → List ℕ
quotient r [] = []
quotient r (c ∷ []) = []
quotient r (c ∷ d ∷ ds) = horner (d ∷ ds) r ∷ quotient r (d ∷ ds)

-- its coefficients are elements
pub quotient_bytes : (r : ℕ) (cs : List ℕ) → r < 256 → AreBytes cs → AreBytes (quotient r cs)
unfolding quotient
quotient_bytes r [] lr bytes = All-nil IsByte
quotient_bytes r (c ∷ []) lr bytes = All-nil IsByte
quotient_bytes r (c ∷ d ∷ ds) lr bytes =
    let rest : AreBytes (d ∷ ds) = tail_bytes c (d ∷ ds) bytes in
    All-cons IsByte _ _ (horner_lt (d ∷ ds) r rest lr) (quotient_bytes r (d ∷ ds) lr rest)

-- it has one coefficient less
pub quotient_length : (r c : ℕ) (cs : List ℕ) → length (quotient r (c ∷ cs)) ≡ length cs
unfolding quotient
quotient_length r c [] = refl
quotient_length r c (d ∷ ds) = ap suc (quotient_length r d ds)

-- the sums of both sides of a step of the division
xor_ring : (c p s t : ℕ) → bit_xor c (bit_xor p s) ≡ bit_xor (bit_xor (bit_xor s t) p) (bit_xor c t)
xor_ring c p s t =
    let e1 : bit_xor c (bit_xor p s) ≡ bit_xor (bit_xor s p) c = xor_comm c (bit_xor p s) ∙ ap (λ u. bit_xor u c) (xor_comm p s) in
    let e2 : bit_xor (bit_xor (bit_xor s t) p) (bit_xor c t) ≡ bit_xor (bit_xor s p) c =
    ap₂ bit_xor (xor_assoc s t p ∙ ap (bit_xor s) (xor_comm t p) ∙ sym (xor_assoc s p t)) (xor_comm c t)
    ∙ xor_assoc (bit_xor s p) t (bit_xor t c) ∙ ap (bit_xor (bit_xor s p)) (sum_twice t c)
    in
    e1 ∙ sym e2

-- the polynomial is the quotient times x + r, and the value at r
pub divide : (r x : ℕ) (cs : List ℕ) → r < 256 → x < 256 → AreBytes cs → horner cs x ≡ bit_xor (product (bit_xor x r) (horner (quotient r cs) x)) (horner cs r)
unfolding horner quotient
divide r x [] lr lx bytes = sym (xor_zero_r _ ∙ product_zero (bit_xor x r) (sum_lt x r lx lr))
divide r x (c ∷ []) lr lx bytes =
    ap (bit_xor c) (product_zero x lx) ∙ sym (ap₂ bit_xor (product_zero (bit_xor x r) (sum_lt x r lx lr)) (ap (bit_xor c) (product_zero r lr)) ∙ xor_zero_l (bit_xor c 0))
divide r x (c ∷ d ∷ ds) lr lx bytes =
    let rest : AreBytes (d ∷ ds) = tail_bytes c (d ∷ ds) bytes in
    let h : ℕ = horner (d ∷ ds) r in
    let q : ℕ = horner (quotient r (d ∷ ds)) x in
    let lh : horner (d ∷ ds) r < 256 = horner_lt (d ∷ ds) r rest lr in
    let lq : horner (quotient r (d ∷ ds)) x < 256 = horner_lt (quotient r (d ∷ ds)) x (quotient_bytes r (d ∷ ds) lr rest) lx in
    let lxr : bit_xor x r < 256 = sum_lt x r lx lr in
    let right : product (bit_xor x r) (bit_xor h (product x q)) ≡ bit_xor (bit_xor (product x h) (product r h)) (product x (product (bit_xor x r) q)) =
    product_sum (bit_xor x r) h (product x q) lxr lh (product_lt x q lx)
    ∙ ap₂ bit_xor (sum_product x r h lx lr)
    (sym (product_assoc (bit_xor x r) x q lxr lx) ∙ ap (λ t. product t q) (product_comm (bit_xor x r) x lxr lx) ∙ product_assoc x (bit_xor x r) q lx lxr)
    in
    let left : product x (horner (d ∷ ds) x) ≡ bit_xor (product x (product (bit_xor x r) q)) (product x h) =
    ap (product x) (divide r x (d ∷ ds) lr lx rest) ∙ product_sum x _ h lx (product_lt (bit_xor x r) q lxr) lh
    in
    ap (bit_xor c) left
    ∙ xor_ring c (product x (product (bit_xor x r) q)) (product x h) (product r h)
    ∙ ap (λ t. bit_xor t (bit_xor c (product r h))) (sym right)

-- another root is a root of the quotient
root_left : (cs : List ℕ) (r s : ℕ) → r < 256 → s < 256 → AreBytes cs → s ≢ r → horner cs r ≡ 0 → horner cs s ≡ 0 → horner (quotient r cs) s ≡ 0
root_left cs r s lr ls bytes apart nr ns =
    let lsr : bit_xor s r < 256 = sum_lt s r ls lr in
    let null : product (bit_xor s r) (horner (quotient r cs) s) ≡ 0 =
    sym (xor_zero_r _) ∙ ap (bit_xor (product (bit_xor s r) (horner (quotient r cs) s))) (sym nr) ∙ sym (divide r s cs lr ls bytes) ∙ ns
    in
    ⊎_elim (λ e. absurd (apart (equal_from_sum s r e))) (λ e. e)
    (no_divisors (bit_xor s r) (horner (quotient r cs) s) lsr (horner_lt _ s (quotient_bytes r cs lr bytes) ls) null)

-- where the quotient is zero and r is a root, all is zero
null_of_quotient : (cs : List ℕ) (r : ℕ) → r < 256 → horner cs r ≡ 0 → AreNull (quotient r cs) → AreNull cs
unfolding horner quotient
null_of_quotient [] r lr root null = All-nil (λ c. c ≡ 0)
null_of_quotient (c ∷ []) r lr root null =
    All-cons (λ c. c ≡ 0) c [] (sym (xor_zero_r c) ∙ ap (bit_xor c) (sym (product_zero r lr)) ∙ root) (All-nil (λ c. c ≡ 0))
null_of_quotient (c ∷ d ∷ ds) r lr root null =
    let h : horner (d ∷ ds) r ≡ 0 = All-head (λ c. c ≡ 0) _ _ null in
    All-cons (λ c. c ≡ 0) c (d ∷ ds)
    (sym (xor_zero_r c) ∙ ap (bit_xor c) (sym (ap (product r) h ∙ product_zero r lr)) ∙ root)
    (null_of_quotient (d ∷ ds) r lr h (All-tail (λ c. c ≡ 0) _ _ null))

-- the roots by Horner's rule
AreZeros : List ℕ → List ℕ → Type 0
AreZeros cs rs = All (λ r. horner cs r ≡ 0) rs

-- the other roots are roots of the quotient
zeros_left : (cs : List ℕ) (r : ℕ) (rs : List ℕ) → r < 256 → AreBytes cs → AreBytes rs
    → All (λ s. r ≢ s) rs → horner cs r ≡ 0 → AreZeros cs rs → AreZeros (quotient r cs) rs
unfolding AreZeros
zeros_left cs r rs lr bytes brs apart root zeros k d less =
    root_left cs r (get_or rs k d) lr (brs k d less) bytes (λ e. apart k d less (sym e)) root (zeros k d less)

-- the root bound by Horner's rule, root after root
fewer : (rs cs : List ℕ) → AreBytes cs → AreBytes rs → AreDifferent rs → AreZeros cs rs → (AreNull cs → ⊥) → length rs < length cs
unfolding AreZeros
fewer rs [] bytes brs apart zeros some = absurd (some (All-nil (λ c. c ≡ 0)))
fewer [] (c ∷ cs) bytes brs apart zeros some = omega arith
fewer (r ∷ rs) (c ∷ cs) bytes brs apart zeros some =
    let lr : r < 256 = head_byte r rs brs in
    let root : horner (c ∷ cs) r ≡ 0 = All-head (λ r. horner (c ∷ cs) r ≡ 0) r rs zeros in
    let ne : All (λ s. r ≢ s) rs = λ k d less. apart 0 (suc k) d (omega arith) (omega arith) in
    let ih : length rs < length (quotient r (c ∷ cs)) = fewer rs (quotient r (c ∷ cs)) (quotient_bytes r (c ∷ cs) lr bytes) (tail_bytes r rs brs)
    (λ i j d order less. apart (suc i) (suc j) d (omega arith) (omega arith))
    (zeros_left (c ∷ cs) r rs lr bytes (tail_bytes r rs brs) ne root (All-tail (λ r. horner (c ∷ cs) r ≡ 0) r rs zeros))
    (λ null. some (null_of_quotient (c ∷ cs) r lr root null))
    in
    let len : length (quotient r (c ∷ cs)) ≡ length cs = quotient_length r c cs in
    omega arith

-- a list of coefficients, not all zero, has value zero at fewer elements than it has coefficients
pub few_roots : (cs rs : List ℕ) → AreBytes cs → AreBytes rs → AreDifferent rs → AreRoots cs rs → (AreNull cs → ⊥) → length rs < length cs
unfolding AreZeros
few_roots cs rs bytes brs apart roots some =
    fewer rs cs bytes brs apart (λ k d less. sym (value_is_horner cs (get_or rs k d) bytes (brs k d less)) ∙ roots k d less) some

-- all are zero, or not all
null_or_not : (cs : List ℕ) → AreNull cs ⊎ (AreNull cs → ⊥)
null_or_not [] = inl (All-nil (λ c. c ≡ 0))
null_or_not (c ∷ cs) =
    ⊎_elim
    (λ is. ⊎_elim (λ rest. inl (All-cons (λ c. c ≡ 0) c cs is rest)) (λ no. inr (λ null. no (All-tail (λ c. c ≡ 0) c cs null))) (null_or_not cs))
    (λ some. inr (λ null. some (All-head (λ c. c ≡ 0) c cs null)))
    (cases_eq c 0)

-- lists of one length whose sum is zero are equal
equal_of_null : (cs ds : List ℕ) → AreBytes cs → length cs ≡ length ds → AreNull (added_row 1 cs ds) → cs ≡ ds
equal_of_null [] [] bytes same null = refl
equal_of_null [] (d ∷ ds) bytes same null = absurd (omega arith)
equal_of_null (c ∷ cs) [] bytes same null = absurd (omega arith)
equal_of_null (c ∷ cs) (d ∷ ds) bytes same null =
    let head : bit_xor d (product 1 c) ≡ 0 = All-head (λ c. c ≡ 0) _ _ null in
    let first : c ≡ d = sym (one_product c (head_byte c cs bytes)) ∙ sym (equal_from_sum d (product 1 c) head) in
    ap₂ (λ x xs. x ∷ xs) first (equal_of_null cs ds (tail_bytes c cs bytes) (omega arith) (All-tail (λ c. c ≡ 0) _ _ null))

-- two polynomials of k coefficients that agree at k different elements are equal
pub equal_where_agree : (cs ds rs : List ℕ) → AreBytes cs → AreBytes ds → AreBytes rs
    → length cs ≡ length ds → length rs ≡ length cs → AreDifferent rs → Agree cs ds rs → cs ≡ ds
equal_where_agree cs ds rs bc bd br same many apart agree =
    let len : length (added_row 1 cs ds) ≡ length ds = length-added_row 1 cs ds in
    let roots : AreRoots (added_row 1 cs ds) rs =
    λ k d less.
    let r : ℕ = get_or rs k d in
    let lr : get_or rs k d < 256 = br k d less in
    value-added_row 1 cs ds r (omega arith) bc bd lr same
    ∙ ap (bit_xor (value ds r)) (one_product _ (value_lt cs r bc lr) ∙ agree k d less)
    ∙ xor_self (value ds r)
    in
    ⊎_elim (λ null. equal_of_null cs ds bc same null)
    (λ some.
    let bound : length rs < length (added_row 1 cs ds) = few_roots (added_row 1 cs ds) rs (added_row_bytes 1 cs ds (omega arith) bd) br apart roots some in
    absurd (omega arith))
    (null_or_not (added_row 1 cs ds))
