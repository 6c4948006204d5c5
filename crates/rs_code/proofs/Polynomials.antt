-- Functions that are polynomials of k coefficients.
use Rattle.std.proofs.Common.{◌≡◌, ℕ, zero, suc, ◌<◌, List, [], ◌∷◌, ◌++◌, length, replicate, refl, sym, ap, ap₂, ◌∙◌, arith, add-one}
use Rattle.std.specs.Prelude.{bit_xor}
use Rattle.std.specs.Int.Bits.{xor_zero_l}
use Rattle.std.proofs.lemmas.List.{length-replicate, length_push}
use Rattle.std.proofs.lemmas.List.Elements.{All-nil, All-cons}
use Rattle.gf256.specs.Field.{IsByte, product}
use Rattle.gf256.specs.Polynomial.{value, AreBytes}
use Rattle.gf256.specs.Row.{added_row}
use Rattle.gf256.proofs.Public.{sum_lt, product_comm, product_zero, sum_product, horner, head_byte, tail_bytes, horner_lt}
use Rattle.gf256.proofs.Public.{value_is_horner, value-added_row, added_row_bytes, length-added_row}

-- k coefficients have the function's values
pub record IsPolynomial (k : ℕ) (f : ℕ → ℕ) : Type 0 where
  pub coefs : List ℕ
  pub count : length coefs ≡ k
  pub bytes : AreBytes coefs
  pub values : (x : ℕ) → x < 256 → value coefs x ≡ f x

-- a function with the same values is a polynomial too
pub polynomial_same : (k : ℕ) (f g : ℕ → ℕ) → IsPolynomial k f → ((x : ℕ) → x < 256 → f x ≡ g x) → IsPolynomial k g
polynomial_same k f g p same = record { coefs = p.coefs; count = p.count; bytes = p.bytes; values = λ x lx. p.values x lx ∙ same x lx }

-- zeros are elements
zeros_bytes : (k : ℕ) → AreBytes (replicate k 0)
zeros_bytes zero = All-nil IsByte
zeros_bytes (suc k) = All-cons IsByte 0 (replicate k 0) (omega arith) (zeros_bytes k)

-- coefficients of zero have the value zero
horner-zeros : (k x : ℕ) → x < 256 → horner (replicate k 0) x ≡ 0
unfolding horner
horner-zeros zero x lx = refl
horner-zeros (suc k) x lx = xor_zero_l _ ∙ ap (product x) (horner-zeros k x lx) ∙ product_zero x lx

-- zero is a polynomial of any number of coefficients
pub polynomial_zero : (k : ℕ) → IsPolynomial k (λ x. 0)
polynomial_zero k = record {
  coefs = replicate k 0;
  count = length-replicate k 0;
  bytes = zeros_bytes k;
  values = λ x lx. value_is_horner (replicate k 0) x (zeros_bytes k) lx ∙ horner-zeros k x lx;
}

-- one is a polynomial of one coefficient
pub polynomial_one : IsPolynomial 1 (λ x. 1)
unfolding horner
polynomial_one =
    let bytes : AreBytes (1 ∷ []) = All-cons IsByte 1 [] (omega arith) (All-nil IsByte) in
    record {
      coefs = 1 ∷ [];
      count = refl;
      bytes = bytes;
      values = λ x lx. value_is_horner (1 ∷ []) x bytes lx ∙ ap (bit_xor 1) (product_zero x lx);
    }

-- a polynomial, and another a times
pub polynomial_sum : (k a : ℕ) (f g : ℕ → ℕ) → a < 256 → IsPolynomial k f → IsPolynomial k g → IsPolynomial k (λ x. bit_xor (f x) (product a (g x)))
polynomial_sum k a f g la p q = record {
  coefs = added_row a q.coefs p.coefs;
  count = length-added_row a q.coefs p.coefs ∙ p.count;
  bytes = added_row_bytes a q.coefs p.coefs la p.bytes;
  values = λ x lx.
      value-added_row a q.coefs p.coefs x la q.bytes p.bytes lx (q.count ∙ sym p.count)
      ∙ ap₂ (λ u v. bit_xor u (product a v)) (p.values x lx) (q.values x lx);
}

-- a zero at the end leaves elements
zero_end_bytes : (cs : List ℕ) → AreBytes cs → AreBytes (cs ++ 0 ∷ [])
zero_end_bytes [] bytes = All-cons IsByte 0 [] (omega arith) (All-nil IsByte)
zero_end_bytes (c ∷ cs) bytes = All-cons IsByte c (cs ++ 0 ∷ []) (head_byte c cs bytes) (zero_end_bytes cs (tail_bytes c cs bytes))

-- a zero at the end leaves the value
horner-zero_end : (cs : List ℕ) (x : ℕ) → x < 256 → horner (cs ++ 0 ∷ []) x ≡ horner cs x
unfolding horner
horner-zero_end [] x lx = xor_zero_l _ ∙ product_zero x lx
horner-zero_end (c ∷ cs) x lx = ap (λ t. bit_xor c (product x t)) (horner-zero_end cs x lx)

-- a zero at the start gives x times the value
horner-zero_start : (cs : List ℕ) (x : ℕ) → horner (0 ∷ cs) x ≡ product x (horner cs x)
unfolding horner
horner-zero_start cs x = xor_zero_l _

-- a polynomial times x + r
pub polynomial_times : (k r : ℕ) (f : ℕ → ℕ) → r < 256 → IsPolynomial k f → IsPolynomial (suc k) (λ x. product (f x) (bit_xor x r))
polynomial_times k r f lr p =
    let cs : List ℕ = p.coefs in
    let low : AreBytes (0 ∷ cs) = All-cons IsByte 0 cs (omega arith) p.bytes in
    let high : AreBytes (cs ++ 0 ∷ []) = zero_end_bytes cs p.bytes in
    let same : length (cs ++ 0 ∷ []) ≡ length (0 ∷ cs) = length_push cs 0 ∙ add-one (length cs) in
    record {
      coefs = added_row r (cs ++ 0 ∷ []) (0 ∷ cs);
      count = length-added_row r (cs ++ 0 ∷ []) (0 ∷ cs) ∙ ap suc p.count;
      bytes = added_row_bytes r (cs ++ 0 ∷ []) (0 ∷ cs) lr low;
      values = λ x lx.
          let lh : horner cs x < 256 = horner_lt cs x p.bytes lx in
          let is : horner cs x ≡ f x = sym (value_is_horner cs x p.bytes lx) ∙ p.values x lx in
          value-added_row r (cs ++ 0 ∷ []) (0 ∷ cs) x lr high low lx same
          ∙ ap₂ (λ u v. bit_xor u (product r v))
          (value_is_horner (0 ∷ cs) x low lx ∙ horner-zero_start cs x)
          (value_is_horner (cs ++ 0 ∷ []) x high lx ∙ horner-zero_end cs x lx)
          ∙ sym (sum_product x r (horner cs x) lx lr)
          ∙ product_comm (bit_xor x r) (horner cs x) (sum_lt x r lx lr) lh
          ∙ ap (λ t. product t (bit_xor x r)) is;
    }
