-- Rows at the front of a longer one.
use Rattle.std.proofs.Common.{◌≡◌, ℕ, ◌+◌, ◌-◌, ◌<◌, ◌≤◌, List, ◌++◌, length, get_or, take, drop, sym, ap, ◌∙◌, arith, inl, inr, get_or-take, get_or-drop}
use Rattle.std.specs.Prelude.{bit_xor}
use Rattle.std.specs.Int.Bits.{xor_zero_r}
use Rattle.std.proofs.lemmas.Bool.{cases_lt}
use Rattle.std.proofs.lemmas.List.{length-take-le, get_or_past, get_or_append_left}
use Rattle.std.proofs.Math.Seq.{get_or-append_right}
use Rattle.gf256.specs.Field.{product}
use Rattle.gf256.specs.Row.{added_row}
use Rattle.gf256.proofs.Public.{get_or-added_row, length-added_row, product_zero}

-- a row added at the front is added at each place, since it stands for itself with zeros behind it
pub added_front : (by : ℕ) (row out new : List ℕ) (at : ℕ) → by < 256 → length row ≤ length out → new ≡ added_row by row (take (length row) out) → at < length out
    → get_or (new ++ drop (length row) out) at 0 ≡ bit_xor (get_or out at 0) (product by (get_or row at 0))
added_front by row out new at lb le is within =
    let front : length (take (length row) out) ≡ length row = length-take-le (length row) out le in
    let len : length new ≡ length row = ap length is ∙ length-added_row by row (take (length row) out) ∙ front in
    elim (cases_lt at (length row)) [
      | inl less ↦
          get_or_append_left new (drop (length row) out) 0 at (omega arith)
          ∙ ap (λ (xs : List ℕ). get_or xs at 0) is
          ∙ get_or-added_row by at row (take (length row) out) less (omega arith)
          ∙ ap (λ x. bit_xor x (product by (get_or row at 0))) (get_or-take (length row) out at 0 less)
      | inr past ↦
          let rest : length row + (at - length new) ≡ at = omega arith in
          get_or-append_right new (drop (length row) out) at 0 (omega arith)
          ∙ get_or-drop (length row) out (at - length new) 0
          ∙ ap (λ n. get_or out n 0) rest
          ∙ sym (ap (λ x. bit_xor (get_or out at 0) (product by x)) (get_or_past row at 0 past)
          ∙ ap (bit_xor (get_or out at 0)) (product_zero by lb) ∙ xor_zero_r (get_or out at 0))
    ]
