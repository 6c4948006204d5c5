-- The one symbol of a column, and the one row of symbols.
use Rattle.std.proofs.Common.{◌≡◌, ℕ, ◌+◌, ◌<◌, ◌≤◌, List, length, get_or, refl, sym, ap, ◌∙◌, subst, arith}
use Rattle.std.specs.List.{range_with_len}
use Rattle.std.proofs.lemmas.List.{length-map}
use Rattle.std.proofs.lemmas.List.FromFn.{fill_by_all, length-range_with_len, get_or-range_with_len, length-map-range_with_len, get_or-map-range_with_len}
use Rattle.wire_bytes.specs.Bytes.{AreBytes}
use Rattle.gf256.specs.Polynomial.{power, value}
use Rattle.rs_code.specs.SourceRows.{IsSymbolRow, column}
use Rattle.rs_code.specs.Symbol.{IsSymbol}
use Rattle.rs_code.specs.Weights.{AreWeights, weighed_bytes}
use Rattle.rs_code.proofs.Public.{interpolates, source_is_symbol, symbol_unique, weighed_value}
use Rattle.object_symbols.specs.SymbolRow.{symbol_in, symbol_row}

-- it is a symbol of the column
pub symbol_in_is : (s : List ℕ) (j : ℕ) → AreBytes s → length s ≤ 255 → IsSymbol s j (symbol_in s j)
unfolding symbol_in
symbol_in_is s j bytes le = interpolates (length s) s j refl bytes le

-- below k it is the column's byte
pub symbol_of_source : (s : List ℕ) (i : ℕ) → AreBytes s → length s ≤ 255 → i < length s → symbol_in s i ≡ get_or s i 0
symbol_of_source s i bytes le less = symbol_unique s i (symbol_in s i) (get_or s i 0) le (symbol_in_is s i bytes le) (source_is_symbol s i bytes le less)

-- the sum of the bytes, each with its weight, is the symbol
pub symbol_of_weights : (s w : List ℕ) (k j : ℕ) → AreBytes s → k ≤ 255 → length s ≡ k → AreWeights (range_with_len 0 k) j w → weighed_bytes w s k ≡ symbol_in s j
symbol_of_weights s w k j bytes le len weights =
    let f : IsSymbol s j (symbol_in s j) = symbol_in_is s j bytes (omega arith) in
    let range : length (range_with_len 0 k) ≡ k = length-range_with_len 0 k in
    ap (weighed_bytes w s) (sym range)
    ∙ weighed_value (range_with_len 0 k) w s f.coefs j weights f.bytes (f.count ∙ len ∙ sym range)
    (λ i less.
    let is : 0 + i ≡ i = omega arith in
    ap (value f.coefs) (ap power (get_or-range_with_len 0 k i 0 (omega arith) ∙ is)) ∙ f.source i (omega arith))
    ∙ sym f.symbol

-- a row with the symbol at each byte place is the one
pub row_by_symbols : (rows : List (List ℕ)) (size j : ℕ) (row : List ℕ) → length row ≡ size
    → ((at : ℕ) → at < size → get_or row at 0 ≡ symbol_in (column rows at) j) → row ≡ symbol_row rows size j
unfolding symbol_row
row_by_symbols rows size j row len same = fill_by_all (λ at. symbol_in (column rows at) j) row size 0 len same

pub length-symbol_row : (rows : List (List ℕ)) (size j : ℕ) → length (symbol_row rows size j) ≡ size
unfolding symbol_row
length-symbol_row rows size j = length-map-range_with_len (λ at. symbol_in (column rows at) j) 0 size

pub get_or-symbol_row : (rows : List (List ℕ)) (size j at : ℕ) → at < size → get_or (symbol_row rows size j) at 0 ≡ symbol_in (column rows at) j
unfolding symbol_row
get_or-symbol_row rows size j at less =
    let is : 0 + at ≡ at = omega arith in
    get_or-map-range_with_len (λ at. symbol_in (column rows at) j) 0 size at at 0 less is

-- the row is symbol j of the rows
pub symbol_row_is : (rows : List (List ℕ)) (size j : ℕ) → ((at : ℕ) → at < size → AreBytes (column rows at)) → length rows ≤ 255
    → IsSymbolRow rows size j (symbol_row rows size j)
symbol_row_is rows size j bytes le = record {
  full = length-symbol_row rows size j;
  symbols = λ at less.
      subst (IsSymbol (column rows at) j) (sym (get_or-symbol_row rows size j at less))
      (symbol_in_is (column rows at) j (bytes at less) (omega (arith, length-map rows (λ row. get_or row at 0))));
}

-- the same where the columns are known to be short
pub symbol_row_of_bytes : (rows : List (List ℕ)) (size j : ℕ) → ((at : ℕ) → at < size → AreBytes (column rows at)) → ((at : ℕ) → length (column rows at) ≤ 255)
    → IsSymbolRow rows size j (symbol_row rows size j)
symbol_row_of_bytes rows size j bytes le =
    symbol_row_is rows size j bytes (let few = le 0 in omega (arith, few, length-map rows (λ row. get_or row 0 0)))
