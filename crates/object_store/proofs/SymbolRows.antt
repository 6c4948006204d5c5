-- The rows that a block of source rows has as its symbols.
use Rattle.std.proofs.Common.{◌≡◌, ◌≢◌, ℕ, zero, suc, ◌+◌, ◌*◌, ◌<◌, ◌≤◌, true, false, List, [], ◌∷◌, ◌++◌}
use Rattle.std.proofs.Common.{length, get_or, take, drop, refl, sym, ap, subst, ◌∙◌, arith, get_or-take, get_or-drop}
use Rattle.std.specs.Prelude.{◌==◌}
use Rattle.std.proofs.lemmas.Bool.Decides.{nat_tests}
use Rattle.std.proofs.lemmas.Nat.{mul-le}
use Rattle.std.proofs.lemmas.List.{ext_get_or, get_or_default, drop-drop, length-append, length-drop, length-take, take_at, drop_at, take-append-drop}
use Rattle.std.proofs.lemmas.List.FromFn.{get_or-map-range_with_len, length-map-range_with_len}
use Rattle.gf256.specs.Polynomial.{AreBytes, power}
use Rattle.wire_bytes.specs.Below.{list_below}
use Rattle.rs_code.specs.Interpolation.{weighed}
use Rattle.rs_code.specs.SourceRows.{cut, column, IsSymbolRow}
use Rattle.rs_code.specs.Symbol.{IsSymbol}
use Rattle.rs_code.proofs.Public.{interpolates, source_is_symbol, symbol_unique, length-column, get_or-column}
use Rattle.rs_solve.specs.Solution.{IsSolution, row_at}
use Rattle.object_store.specs.Inner.BlockRows.{symbol_row, symbols_at, rows_held}
use Rattle.held_packets.proofs.Public.{nothing_listed, bytes_of_column}

pub length-symbol_row : (k size j : ℕ) (bytes : List ℕ) → length (symbol_row k size bytes j) ≡ size
unfolding symbol_row
length-symbol_row k size j bytes = length-map-range_with_len (λ at. weighed power k (column (cut k size bytes) at) k (power j)) 0 size

symbol_byte : (k size j at : ℕ) (bytes : List ℕ) → at < size → get_or (symbol_row k size bytes j) at 0 ≡ weighed power k (column (cut k size bytes) at) k (power j)
unfolding symbol_row
symbol_byte k size j at bytes less =
    get_or-map-range_with_len (λ at. weighed power k (column (cut k size bytes) at) k (power j)) 0 size at at 0 less (let z : 0 + at ≡ at = omega arith in z)

-- a column of rows of bytes is one of bytes
column_bytes : (k size at : ℕ) (bytes : List ℕ) → AreBytes bytes → at < size → AreBytes (column (cut k size bytes) at)
column_bytes k size at bytes are within i d less =
    let inside : i < k = omega (arith, less, length-column k size at bytes) in
    subst (λ (x : ℕ). x < 256) (sym (get_or_default (column (cut k size bytes) at) i d 0 less ∙ get_or-column k size at i bytes inside within))
    (each_byte bytes (i * size + at) are)
  where
    each_byte : (xs : List ℕ) (i : ℕ) → AreBytes xs → get_or xs i 0 < 256
    each_byte [] i are = omega arith
    each_byte (x ∷ xs) zero are = are 0 0 (omega arith)
    each_byte (x ∷ xs) (suc i) are = each_byte xs i (λ n d less. are (suc n) d (omega arith))

-- the row is the symbol
pub symbol_row_is : (k size j : ℕ) (bytes : List ℕ) → k ≤ 255 → AreBytes bytes → IsSymbolRow (cut k size bytes) size j (symbol_row k size bytes j)
symbol_row_is k size j bytes few are = record {
  full = length-symbol_row k size j bytes;
  symbols = λ at less. subst (λ (v : ℕ). IsSymbol (column (cut k size bytes) at) j v) (sym (symbol_byte k size j at bytes less))
      (interpolates k (column (cut k size bytes) at) j (length-column k size at bytes) (column_bytes k size at bytes are less) few);
}

-- and no other row is
pub symbol_row_only : (k size j : ℕ) (bytes row : List ℕ) → k ≤ 255 → IsSymbolRow (cut k size bytes) size j row → symbol_row k size bytes j ≡ row
symbol_row_only k size j bytes row few is =
    ext_get_or 0 (symbol_row k size bytes j) row (length-symbol_row k size j bytes ∙ sym is.full) (λ at less.
    let within : at < size = omega (arith, less, length-symbol_row k size j bytes) in
    let here = is.symbols at within in
    let s = column (cut k size bytes) at in
    symbol_byte k size j at bytes within
    ∙ symbol_unique s j (weighed power k s k (power j)) (get_or row at 0) (omega (arith, length-column k size at bytes, few))
    (interpolates k s j (length-column k size at bytes) (bytes_of_column s j (get_or row at 0) here) few) here)

-- a row within its bytes is whole
pub length-row : (size i k : ℕ) (bytes : List ℕ) → k * size ≤ length bytes → i < k → length (row_at size bytes i) ≡ size
length-row size i k bytes whole less =
    let next : (i + 1) * size ≡ i * size + size = omega arith in
    omega (arith, length-take size (drop (i * size) bytes), length-drop (i * size) bytes, mul-le (i + 1) size k size (omega (arith, less)) (omega arith), next, whole)

-- symbol j of those below k is source row j
pub symbol_row_source : (k size j : ℕ) (bytes : List ℕ) → k ≤ 255 → AreBytes bytes → k * size ≤ length bytes → j < k → symbol_row k size bytes j ≡ row_at size bytes j
symbol_row_source k size j bytes few are whole less = symbol_row_only k size j bytes (row_at size bytes j) few (record {
  full = length-row size j k bytes whole less;
  symbols = λ at lt.
      let s = column (cut k size bytes) at in
      let here : get_or s j 0 ≡ get_or (row_at size bytes j) at 0 =
      get_or-column k size at j bytes less lt ∙ sym (get_or-take size (drop (j * size) bytes) at 0 lt ∙ get_or-drop (j * size) bytes at 0) in
      subst (λ (v : ℕ). IsSymbol s j v) here
      (source_is_symbol s j (column_bytes k size at bytes are lt) (omega (arith, length-column k size at bytes, few))
      (omega (arith, length-column k size at bytes, less)));
})

-- ---- the rows at some places

-- the row in position i
pub row_of_symbols : (k size i : ℕ) (bytes places : List ℕ) → i < length places
    → row_at size (symbols_at k size bytes places) i ≡ symbol_row k size bytes (get_or places i 0)
unfolding symbols_at
row_of_symbols k size i bytes [] less = absurd (omega arith)
row_of_symbols k size zero bytes (p ∷ places) less =
    ap (λ (m : ℕ). take size (drop m (symbol_row k size bytes p ++ symbols_at k size bytes places))) (let z : 0 * size ≡ 0 = omega arith in z)
    ∙ take_at (symbol_row k size bytes p) (symbols_at k size bytes places) size (length-symbol_row k size p bytes)
row_of_symbols k size (suc i) bytes (p ∷ places) less =
    let next : suc i * size ≡ size + i * size = omega arith in
    let rest = symbols_at k size bytes places in
    ap (λ (m : ℕ). take size (drop m (symbol_row k size bytes p ++ rest))) next
    ∙ ap (take size) (sym (drop-drop (i * size) size (symbol_row k size bytes p ++ rest)))
    ∙ ap (row_at_of i) (drop_at (symbol_row k size bytes p) rest size (length-symbol_row k size p bytes))
    ∙ row_of_symbols k size i bytes places (omega arith)
  where
    row_at_of : ℕ → List ℕ → List ℕ
    row_at_of i xs = row_at size xs i

-- the symbols are those of the rows alone
row_by_cut : (k size j : ℕ) (xs ys : List ℕ) → cut k size xs ≡ cut k size ys → symbol_row k size xs j ≡ symbol_row k size ys j
unfolding symbol_row
row_by_cut k size j xs ys same = ap (λ (rs : List (List ℕ)). list_below size (λ at. weighed power k (column rs at) k (power j))) same

pub symbols_by_cut : (k size : ℕ) (xs ys places : List ℕ) → cut k size xs ≡ cut k size ys → symbols_at k size xs places ≡ symbols_at k size ys places
unfolding symbols_at
symbols_by_cut k size xs ys [] same = refl
symbols_by_cut k size xs ys (p ∷ places) same =
    ap (λ (r : List ℕ). r ++ symbols_at k size xs places) (row_by_cut k size p xs ys same)
    ∙ ap (λ (r : List ℕ). symbol_row k size ys p ++ r) (symbols_by_cut k size xs ys places same)

-- these are rows whose symbols they are
symbols_are : (k size : ℕ) (bytes places rows : List ℕ) → length rows ≡ length places * size
    → ((i : ℕ) → i < length places → symbol_row k size bytes (get_or places i 0) ≡ row_at size rows i) → symbols_at k size bytes places ≡ rows
unfolding symbols_at
symbols_are k size bytes [] rows whole each = sym (nothing_listed rows (omega (arith, whole)))
symbols_are k size bytes (p ∷ places) rows whole each =
    let split : suc (length places) * size ≡ size + length places * size = omega arith in
    let first : symbol_row k size bytes p ≡ take size rows = each 0 (omega arith) ∙ ap (λ (m : ℕ). take size (drop m rows)) (let z : 0 * size ≡ 0 = omega arith in z) in
    let rest = symbols_are k size bytes places (drop size rows) (omega (arith, length-drop size rows, whole, split)) (λ i less.
    let next : size + i * size ≡ suc i * size = omega arith in
    each (suc i) (omega arith) ∙ ap (take size) (ap (λ (m : ℕ). drop m rows) (sym next) ∙ sym (drop-drop (i * size) size rows))) in
    ap (λ (r : List ℕ). r ++ symbols_at k size bytes places) first ∙ ap (λ (r : List ℕ). take size rows ++ r) rest ∙ take-append-drop size rows

-- the solved rows come back
pub symbols_solved : (k size : ℕ) (places rows source : List ℕ) → k ≤ 255 → length places ≡ k → length rows ≡ length places * size
    → IsSolution size places rows source → symbols_at k size source places ≡ rows
symbols_solved k size places rows source few all whole is = symbols_are k size source places rows whole (λ i less.
    symbol_row_only k size (get_or places i 0) source (row_at size rows i) few
    (subst (λ (m : ℕ). IsSymbolRow (cut m size source) size (get_or places i 0) (row_at size rows i)) all (is.symbols i less)))

-- ---- the rows of a block in memory

pub held_when_not : (k size : ℕ) (places bytes : List ℕ) → length places ≢ k → rows_held k size places bytes ≡ bytes
unfolding rows_held
held_when_not k size places bytes apart = let e : (length places == k) ≡ false = grind (arith, nat_tests) in rw e refl

pub held_below : (k size : ℕ) (places bytes : List ℕ) → length places < k → rows_held k size places bytes ≡ bytes
held_below k size places bytes less = held_when_not k size places bytes (λ all. absurd (omega arith))

pub held_when_full : (k size : ℕ) (places bytes : List ℕ) → length places ≡ k → rows_held k size places bytes ≡ symbols_at k size bytes places
unfolding rows_held
held_when_full k size places bytes all = let e : (length places == k) ≡ true = grind (arith, nat_tests) in rw e refl
