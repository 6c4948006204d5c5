-- The first byte in which a row and a symbol differ.
use Rattle.std.proofs.Common.{◌≡◌, ◌≢◌, ℕ, zero, suc, ◌+◌, ◌-◌, ◌<◌, ◌≤◌, Bool, true, false, cond, not, ◌&&◌, List, [], ◌∷◌, ◌++◌}
use Rattle.std.proofs.Common.{length, get_or, drop, replicate, option_map, refl, sym, ap, subst, ◌∙◌, arith, Option, Some, None}
use Rattle.std.specs.Prelude.{is_some, ◌==◌, nat_le, unwrap_or, IfSome, if◌then◌else◌}
use Rattle.std.specs.List.{position_from, zip}
use Rattle.std.specs.Str.{bytes_eq}
use Rattle.std.specs.FinMap.{get}
use Rattle.std.proofs.lemmas.List.{drop_more, drop_all}
use Rattle.std.proofs.lemmas.Slice.Zip.{length-zip, get_or-zip}
use Rattle.std.proofs.lemmas.Bool.Decides.{nat_tests}
use Rattle.wire_bytes.specs.Bytes.{zero_filled}
use Rattle.rs_code.specs.SourceRows.{Rows, AreRows, IsSymbolRow, column, rows_of}
use Rattle.rs_code.specs.Symbol.{IsSymbol}
use Rattle.rs_code.proofs.Public.{symbol_unique, length-column}
use Rattle.rs_solve.specs.Solution.{row_at}
use Rattle.wire_bytes.proofs.Public.{length_filled}
use Rattle.object_store.specs.declared.finding.Finding.TheVariants.{Differs, Full, Wanting}
use Rattle.object_store.specs.Inner.BlockHeld.{BlockHeld, finding_in, finding_on, finding_of, held_in}
use Rattle.object_store.specs.Inner.BlockRows.{rows_map, symbol_row, symbols_at, rows_held, IsBlock}
use Rattle.object_store.proofs.Blocks.{row_at_position, row_stands}
use Rattle.object_store.proofs.Additions.{seen_as}
use Rattle.object_store.proofs.SymbolRows.{length-row, length-symbol_row, symbol_row_is, row_of_symbols, held_below, held_when_full}

-- the bytes differ
abbrev pub differ : ℕ × ℕ → Bool
differ p = not (p.0 == p.1)

-- lists of one length are equal where no pair differs
pub equal_by_pairs : (i : ℕ) (xs ys : List ℕ) → length xs ≡ length ys → bytes_eq xs ys ≡ not (is_some (position_from differ i (zip xs ys)))
equal_by_pairs i [] [] e = refl
equal_by_pairs i [] (y ∷ ys) e = absurd (omega arith)
equal_by_pairs i (x ∷ xs) [] e = absurd (omega arith)
equal_by_pairs i (x ∷ xs) (y ∷ ys) e = elim (x == y) as (λ b. (b && bytes_eq xs ys) ≡ not (is_some (cond (not b) (Some i) (position_from differ (i + 1) (zip xs ys))))) [
  | true ↦ equal_by_pairs (i + 1) xs ys (omega arith)
  | false ↦ refl
]

-- the byte of a symbol with zeros behind it
zero_row : (n i : ℕ) → get_or {A = ℕ} (replicate n 0) i 0 ≡ 0
zero_row zero i = refl
zero_row (suc n) zero = refl
zero_row (suc n) (suc i) = zero_row n i

padded : (xs : List ℕ) (n i : ℕ) → get_or {A = ℕ} (xs ++ replicate n 0) i 0 ≡ get_or xs i 0
padded [] n i = zero_row n i
padded (x ∷ xs) n zero = refl
padded (x ∷ xs) n (suc i) = padded xs n i

pub filled_byte : (size i : ℕ) (xs : List ℕ) → get_or (zero_filled size xs) i 0 ≡ get_or xs i 0
unfolding zero_filled
filled_byte size i xs = padded xs (size - length xs) i

-- the pairs of a row and a symbol
abbrev pub pairs : List ℕ → List ℕ → List (ℕ × ℕ)
pairs row symbol = zip row (zero_filled (length row) symbol)

-- from one pair to the next
pub next_pair : (row symbol : List ℕ) (at : ℕ) → length symbol ≤ length row → at < length row
    → position_from differ at (drop at (pairs row symbol)) ≡ cond (not (get_or row at 0 == get_or symbol at 0))
    (Some at) (position_from differ (at + 1) (drop (at + 1) (pairs row symbol)))
next_pair row symbol at within less =
    let filled = length_filled (length row) symbol within in
    let many = length-zip row (zero_filled (length row) symbol) in
    let inside : at < length (pairs row symbol) = omega (arith, many, filled) in
    let lt : at < length (zero_filled (length row) symbol) = omega (arith, filled) in
    let pair : get_or (pairs row symbol) at (0, 0) ≡ (get_or row at 0, get_or (zero_filled (length row) symbol) at 0) =
    get_or-zip row (zero_filled (length row) symbol) at (0, 0) less lt in
    ap (position_from differ at) (drop_more (pairs row symbol) at (0, 0) inside)
    ∙ ap (λ (p : ℕ × ℕ). cond (differ p) (Some at) (position_from differ (at + 1) (drop (at + 1) (pairs row symbol)))) pair
    ∙ ap (λ (y : ℕ). cond (not (get_or row at 0 == y)) (Some at) (position_from differ (at + 1) (drop (at + 1) (pairs row symbol)))) (filled_byte (length row) at symbol)

-- past the last pair
pub no_pair : (row symbol : List ℕ) (at : ℕ) → length symbol ≤ length row → length row ≤ at → position_from differ at (drop at (pairs row symbol)) ≡ None
no_pair row symbol at within past =
    let filled = length_filled (length row) symbol within in
    let many = length-zip row (zero_filled (length row) symbol) in
    ap (position_from differ at) (drop_all at (pairs row symbol) (omega (arith, many, filled)))

-- the first place at which the pair differs is found
same_so_far : (row symbol : List ℕ) (m : ℕ) → length symbol ≤ length row → m ≤ length row
    → ((i : ℕ) → i < m → get_or row i 0 ≡ get_or symbol i 0) → position_from differ m (drop m (pairs row symbol)) ≡ position_from differ 0 (pairs row symbol)
same_so_far row symbol zero within inside same = refl
same_so_far row symbol (suc m) within inside same =
    let here : not (get_or row m 0 == get_or symbol m 0) ≡ false = let e = same m (omega arith) in grind (arith, nat_tests) in
    let next : m + 1 ≡ suc m = omega arith in
    ap (λ (i : ℕ). position_from differ i (drop i (pairs row symbol))) (sym next)
    ∙ sym (next_pair row symbol m within (omega (arith, inside))
    ∙ ap (λ (t : Bool). cond t (Some m) (position_from differ (m + 1) (drop (m + 1) (pairs row symbol)))) here)
    ∙ same_so_far row symbol m within (omega (arith, inside)) (λ i less. same i (omega (arith, less)))

pub first_is : (row symbol : List ℕ) (o : Option ℕ) → length symbol ≤ length row → ((i : ℕ) → i < unwrap_or o (length row) → get_or row i 0 ≡ get_or symbol i 0)
    → IfSome o (λ at. (at < length row) × (get_or row at 0 ≢ get_or symbol at 0)) → o ≡ position_from differ 0 (pairs row symbol)
first_is row symbol None within before here =
    sym (no_pair row symbol (length row) within (omega arith)) ∙ same_so_far row symbol (length row) within (omega arith) before
first_is row symbol (Some at) within before here =
    let less = here.0 in
    let other = here.1 in
    let apart : not (get_or row at 0 == get_or symbol at 0) ≡ true = grind (arith, nat_tests) in
    sym (next_pair row symbol at within less ∙ ap (λ (t : Bool). cond t (Some at) (position_from differ (at + 1) (drop (at + 1) (pairs row symbol)))) apart)
    ∙ same_so_far row symbol at within (omega (arith, less)) before

-- the same of a symbol of a block, by what it is
pub first_of_symbol : (rows : Rows) (j : ℕ) (symbol : List ℕ) (o : Option ℕ) → AreRows rows → rows.k ≤ 255 → length symbol ≤ rows.size
    → ((at : ℕ) → at < unwrap_or o rows.size → IsSymbol (column (rows_of rows) at) j (get_or symbol at 0))
    → IfSome o (λ at. (at < rows.size) × (IsSymbol (column (rows_of rows) at) j (get_or symbol at 0) → ⊥))
    → o ≡ position_from differ 0 (zip (symbol_row rows.k rows.size rows.bytes j) (zero_filled rows.size symbol))
first_of_symbol rows j symbol o are few within before here =
    let row = symbol_row rows.k rows.size rows.bytes j in
    let long = length-symbol_row rows.k rows.size j rows.bytes in
    let is = symbol_row_is rows.k rows.size j rows.bytes few are.bytes in
    first_is row symbol o (omega (arith, long, within)) (so_far row is long o before here) (at_first row is long o here)
    ∙ ap (λ (m : ℕ). position_from differ 0 (zip row (zero_filled m symbol))) long
  where
    each_byte : (row : List ℕ) → IsSymbolRow (rows_of rows) rows.size j row → (i : ℕ) → i < rows.size
        → IsSymbol (column (rows_of rows) i) j (get_or symbol i 0) → get_or row i 0 ≡ get_or symbol i 0
    each_byte row is i less same = symbol_unique (column (rows_of rows) i) j (get_or row i 0) (get_or symbol i 0)
        (omega (arith, length-column rows.k rows.size i rows.bytes, few)) (is.symbols i less) same

    so_far : (row : List ℕ) → IsSymbolRow (rows_of rows) rows.size j row → length row ≡ rows.size → (o : Option ℕ)
        → ((at : ℕ) → at < unwrap_or o rows.size → IsSymbol (column (rows_of rows) at) j (get_or symbol at 0))
        → IfSome o (λ at. (at < rows.size) × (IsSymbol (column (rows_of rows) at) j (get_or symbol at 0) → ⊥))
        → (i : ℕ) → i < unwrap_or o (length row) → get_or row i 0 ≡ get_or symbol i 0
    so_far row is long None before here i less = each_byte row is i (omega (arith, less, long)) (before i (omega (arith, less, long)))
    so_far row is long (Some at) before here i less = each_byte row is i (omega (arith, less, here.0)) (before i less)

    at_first : (row : List ℕ) → IsSymbolRow (rows_of rows) rows.size j row → length row ≡ rows.size → (o : Option ℕ)
        → IfSome o (λ at. (at < rows.size) × (IsSymbol (column (rows_of rows) at) j (get_or symbol at 0) → ⊥))
        → IfSome o (λ at. (at < length row) × (get_or row at 0 ≢ get_or symbol at 0))
    at_first row is long None here = here
    at_first row is long (Some at) here = (
      omega (arith, here.0, long),
      λ same. here.1 (subst (IsSymbol (column (rows_of rows) at) j) same (is.symbols at here.0)),
    )

-- ---- what a symbol meets at a held place

compared : (k held : ℕ) (row r : List ℕ) (o : Option ℕ) → length r ≡ length row → o ≡ position_from differ 0 (zip r row) → finding_on k held row (Some r) ≡ finding_of o
compared k held row r None long is =
    let same : bytes_eq r row ≡ true = equal_by_pairs 0 r row long ∙ ap (λ (o : Option ℕ). not (is_some o)) (sym is) in rw same refl
compared k held row r (Some at) long is =
    let other : bytes_eq r row ≡ false = equal_by_pairs 0 r row long ∙ ap (λ (o : Option ℕ). not (is_some o)) (sym is) in
    rw other (ap (λ (o : Option ℕ). Differs (unwrap_or o 0)) (sym is))

pub found_on_row : (h : BlockHeld) (j : ℕ) (symbol r : List ℕ) (o : Option ℕ) → Some r ≡ get h.rows j → length r ≡ h.size → length symbol ≤ h.size
    → o ≡ position_from differ 0 (pairs r symbol) → finding_of o ≡ finding_in h j symbol
found_on_row h j symbol r o held long within is =
    let filled = length_filled h.size symbol within in
    sym (compared h.k (held_in h) (zero_filled h.size symbol) r o (long ∙ sym filled) (is ∙ ap (λ (n : ℕ). position_from differ 0 (zip r (zero_filled n symbol))) long))
    ∙ ap (finding_on h.k (held_in h) (zero_filled h.size symbol)) held

-- the same by the place's position among the places of a block in memory
row_held_at : (k size j at : ℕ) (places bytes rows : List ℕ) → rows_held k size places bytes ≡ rows → Some at ≡ position_from (λ p. p == j) 0 places
    → Some (row_at size rows at) ≡ get (rows_map size places (rows_held k size places bytes)) j
row_held_at k size j at places bytes rows is found =
    ap (option_map (row_at size rows)) found ∙ sym (row_at_position size j places rows) ∙ ap (λ (xs : List ℕ). get (rows_map size places xs) j) (sym is)

-- a place that is found is one of a block
pub place_found : (k n size j at : ℕ) (places bytes : List ℕ) → IsBlock k n size places bytes → Some at ≡ position_from (λ p. p == j) 0 places → j < 255
place_found k n size j at places bytes is found =
    let s = row_stands size j places bytes (row_at size bytes at) (row_at_position size j places bytes ∙ ap (option_map (row_at size bytes)) (sym found)) in
    let below : get_or places s.at 0 < n = is.below s.at 0 s.less in
    omega (arith, below, s.place, is.fits)

pub found_open : (k n size j at : ℕ) (symbol places bytes : List ℕ) (o : Option ℕ) → IsBlock k n size places bytes → length places < k
    → Some at ≡ position_from (λ p. p == j) 0 places → at < length places → length symbol ≤ size
    → o ≡ position_from differ 0 (pairs (row_at size bytes at) symbol)
    → finding_of o ≡ finding_in (seen_as k n size places (rows_held k size places bytes)) j symbol
found_open k n size j at symbol places bytes o is less found within fits o_is =
    found_on_row (seen_as k n size places (rows_held k size places bytes)) j symbol (row_at size bytes at) o
    (row_held_at k size j at places bytes bytes (held_below k size places bytes less) found)
    (length-row size at (length places) bytes (omega (arith, is.whole)) within) fits o_is

pub found_solved : (k n size j at : ℕ) (symbol places bytes : List ℕ) (o : Option ℕ) → length places ≡ k
    → Some at ≡ position_from (λ p. p == j) 0 places → length symbol ≤ size
    → o ≡ position_from differ 0 (zip (symbol_row k size bytes j) (zero_filled size symbol))
    → finding_of o ≡ finding_in (seen_as k n size places (rows_held k size places bytes)) j symbol
found_solved k n size j at symbol places bytes o all found fits o_is =
    let long = length-symbol_row k size j bytes in
    let rows = symbols_at k size bytes places in
    let there = row_held_at k size j at places bytes rows (held_when_full k size places bytes all) found in
    let s = row_stands size j places (rows_held k size places bytes) (row_at size rows at) (sym there) in
    let row_is : row_at size rows at ≡ symbol_row k size bytes j = s.is ∙ ap (λ (xs : List ℕ). row_at size xs s.at) (held_when_full k size places bytes all)
    ∙ row_of_symbols k size s.at bytes places s.less ∙ ap (symbol_row k size bytes) s.place in
    found_on_row (seen_as k n size places (rows_held k size places bytes)) j symbol (symbol_row k size bytes j) o
    (ap (λ (r : List ℕ). Some r) (sym row_is) ∙ there)
    long fits (o_is ∙ ap (λ (m : ℕ). position_from differ 0 (zip (symbol_row k size bytes j) (zero_filled m symbol))) (sym long))

pub found_nowhere : (k n size j : ℕ) (symbol places rows : List ℕ) → None ≡ position_from (λ p. p == j) 0 places
    → (if nat_le k (held_in (seen_as k n size places rows)) then Full else Wanting (held_in (seen_as k n size places rows)))
    ≡ finding_in (seen_as k n size places rows) j symbol
found_nowhere k n size j symbol places rows none =
    ap (finding_on k (held_in (seen_as k n size places rows)) (zero_filled size symbol))
    (ap (option_map (row_at size rows)) none ∙ sym (row_at_position size j places rows))
