-- The weighed bytes of a block's columns, and the symbols that they are.
use Rattle.std.proofs.Common.{◌≡◌, ℕ, ◌+◌, ◌-◌, ◌<◌, ◌≤◌, List, get_or, length, sym, ap, ◌∙◌, subst, arith}
use Rattle.std.specs.List.{range_with_len}
use Rattle.std.proofs.lemmas.List.FromFn.{length-range_with_len}
use Rattle.gf256.specs.Polynomial.{value, AreBytes}
use Rattle.rs_code.specs.SourceRows.{Rows, AreRows, column, rows_of}
use Rattle.rs_code.specs.Symbol.{IsSymbol}
use Rattle.rs_code.specs.Weights.{AreWeights, weighed_bytes}
use Rattle.rs_code.proofs.Interpolate.{interpolates, source_is_symbol}
use Rattle.rs_code.proofs.Weighing.{weighed_value}
use Rattle.rs_code.proofs.SourceShares.{source_point}
use Rattle.rs_code.proofs.Cuts.{length-column, column_bytes}

-- a column of the block is one of bytes
pub block_column_bytes : (rows : Rows) (at : ℕ) → AreRows rows → at < rows.size → AreBytes (column (rows_of rows) at)
block_column_bytes rows at are within = column_bytes rows.k rows.size at rows.bytes are.bytes are.whole within

-- the weighed sum of all of a column is its symbol
pub weighed_is_symbol : (rows : Rows) (at j n v : ℕ) (w : List ℕ) → AreRows rows → AreWeights (range_with_len 0 rows.k) j w → n ≡ rows.k → n ≤ 255 → at < rows.size
    → v ≡ weighed_bytes w (column (rows_of rows) at) n → IsSymbol (column (rows_of rows) at) j v
weighed_is_symbol rows at j n v w are weights count ln within is =
    let s : List ℕ = column (rows_of rows) at in
    let k : ℕ = rows.k in
    let len : length (column (rows_of rows) at) ≡ rows.k = length-column rows.k rows.size at rows.bytes in
    let range : length (range_with_len 0 rows.k) ≡ rows.k = length-range_with_len 0 rows.k in
    let f = interpolates k s j len (block_column_bytes rows at are within) (omega arith) in
    record {
      coefs = f.coefs;
      count = f.count;
      bytes = f.bytes;
      source = f.source;
      symbol =
          is ∙ ap (weighed_bytes w s) (count ∙ sym range)
          ∙ weighed_value (range_with_len 0 k) w s f.coefs j weights f.bytes (f.count ∙ len ∙ sym range)
          (λ i less. ap (value f.coefs) (source_point k i (omega arith)) ∙ f.source i (omega arith));
    }

-- the byte of a row is the symbol of its place
pub row_is_symbol : (rows : Rows) (at i n v : ℕ) → AreRows rows → n ≡ rows.k → n ≤ 255 → at < rows.size → i < n
    → v ≡ get_or (column (rows_of rows) at) i 0 → IsSymbol (column (rows_of rows) at) i v
row_is_symbol rows at i n v are count ln within less is =
    let s : List ℕ = column (rows_of rows) at in
    let len : length (column (rows_of rows) at) ≡ n = length-column rows.k rows.size at rows.bytes ∙ sym count in
    subst (λ (t : ℕ). IsSymbol s i t) (sym is) (source_is_symbol s i (block_column_bytes rows at are within) (omega arith) (omega arith))

-- bytes that are those of a piece of a symbol are the symbol's
pub bytes_of_piece : (rows : Rows) (start j n : ℕ) (piece bytes : List ℕ) → n ≤ length piece
    → ((i : ℕ) → i < length piece → IsSymbol (column (rows_of rows) (start + i)) j (get_or piece i 0))
    → ((i : ℕ) → i < n → get_or piece i 0 ≡ get_or bytes (start + i) 0)
    → (at : ℕ) → start ≤ at → at < start + n → IsSymbol (column (rows_of rows) at) j (get_or bytes at 0)
bytes_of_piece rows start j n piece bytes le are same at from less =
    let m : ℕ = at - start in
    let there : start + m ≡ at = omega (arith, from) in
    subst (λ (a : ℕ). IsSymbol (column (rows_of rows) a) j (get_or bytes a 0)) there
    (subst (IsSymbol (column (rows_of rows) (start + m)) j) (same m (omega (arith, from, less))) (are m (omega (arith, from, less, le))))
