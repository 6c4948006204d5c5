-- The two ways to a source row: a copy, and a sum of weighed rows.
use Rattle.std.proofs.Common.{◌≡◌, ◌≢◌, ℕ, ◌*◌, ◌<◌, false, eqb, List, length, get_or, sym, ap, ◌∙◌, ne_eqb}
use Rattle.std.specs.Prelude.{All}
use Rattle.std.specs.List.{list_any}
use Rattle.std.proofs.lemmas.List.Folds.{list_any_none}
use Rattle.gf256.specs.Polynomial.{power, value}
use Rattle.rs_code.specs.SourceRows.{column, cut}
use Rattle.rs_code.specs.Weights.{AreWeights, weighed_bytes}
use Rattle.rs_code.proofs.Public.{weighed_value}
use Rattle.rs_solve.specs.Solution.{row_at}
use Rattle.rs_solve.specs.Inner.Values.{IsRowAt}
use Rattle.rs_solve.proofs.RowBytes.{length-row_at, byte_of_row}

-- the row of a place is the row at it
pub copied_row : (size m i : ℕ) (places rows : List ℕ) → length rows ≡ length places * size → i < length places → get_or places i 0 ≡ m
    → IsRowAt size places rows m (row_at size rows i)
copied_row size m i places rows whole less is = record {
  long = length-row_at (length places) size i rows whole less;
  values = λ at within cs all len values.
      byte_of_row (length places) size i at rows less within ∙ sym (values i less) ∙ ap (λ j. value cs (power j)) is;
}

-- the sum of the rows, each times its weight at a place, is the row at it
pub weighed_row : (size m : ℕ) (places rows w row : List ℕ) → AreWeights places m w → length row ≡ size
    → ((at : ℕ) → at < size → get_or row at 0 ≡ weighed_bytes w (column (cut (length w) size rows) at) (length w)) → IsRowAt size places rows m row
weighed_row size m places rows w row weights long sums = record {
  long = long;
  values = λ at within cs all len values.
      sums at within ∙ ap (λ k. weighed_bytes w (column (cut k size rows) at) k) weights.count
      ∙ weighed_value places w (column (cut (length places) size rows) at) cs m weights all len values;
}

-- a place that none is equal to is not among them
pub not_among : (places : List ℕ) (m : ℕ) → All (λ p. p ≢ m) places → list_any (λ p. eqb p m) places ≡ false
not_among places m apart = list_any_none (λ p. eqb p m) places (λ i d less. ne_eqb (get_or places i d) m (apart i d less))
