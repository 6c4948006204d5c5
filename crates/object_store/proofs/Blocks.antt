-- A block in memory, as a map from places to rows.
use Rattle.std.proofs.Common.{◌≡◌, ◌≢◌, ℕ, zero, suc, ◌+◌, ◌-◌, ◌*◌, ◌<◌, ◌≤◌, Bool, true, false, ◌||◌, cond, List, [], ◌∷◌, ◌++◌}
use Rattle.std.proofs.Common.{length, get_or, take, drop, refl, sym, ap, subst, ◌∙◌, arith, All, Option, Some, None}
use Rattle.std.proofs.Common.{eqb-true, append_assoc, replicate}
use Rattle.std.specs.Prelude.{if◌then◌else◌, is_some, ◌==◌, nat_le, option_map}
use Rattle.std.specs.List.{list_any, position_from}
use Rattle.std.specs.Ordering.{nat_cmp, eq_by_cmp}
use Rattle.std.specs.FinMap.{empty, get, insert, find, from_entries, get-from_entries, from_entries_push, nat_cmp-IsAntisymmetric}
use Rattle.std.specs.Cmp.{nat_cmp_total}
use Rattle.std.proofs.lemmas.Bool.Decides.{nat_tests}
use Rattle.std.proofs.lemmas.List.{drop-drop, take-append-le, drop-append-le, take_all, take_at, length-drop, length-append}
use Rattle.std.proofs.lemmas.List.Elements.{All-push}
use Rattle.std.proofs.lemmas.List.Quantifiers.{all_pairs_push}
use Rattle.gf256.specs.Polynomial.{AreBytes, AreDifferent}
use Rattle.rs_code.specs.Weights.{ArePlaces}
use Rattle.rs_solve.specs.Solution.{missing, missing_below, row_at}
use Rattle.wire_bytes.specs.Below.{count_below}
use Rattle.wire_bytes.proofs.Public.{count_is_sum, sum_with, count_none, count_same}
use Rattle.object_store.specs.Inner.BlockHeld.{held_in, sources_in, is_full, solving_steps, IsSource}
use Rattle.object_store.specs.Inner.BlockRows.{row_entries, rows_map, symbol_row, rows_held, IsBlock, IsSolved, steps_when_full}
use Rattle.wire_bytes.specs.Bytes.{zero_filled}
use Rattle.rs_code.specs.SourceRows.{cut, IsSymbolRow}
use Rattle.held_packets.proofs.Public.{nothing_listed, tied_numbers}
use Rattle.object_store.proofs.SymbolRows.{symbol_row_is, row_of_symbols, held_when_full}

-- the place is among these
abbrev pub is_among : ℕ → List ℕ → Bool
is_among j places = list_any (λ p. p == j) places

-- a place is found where it is among the places
found_among : (size j : ℕ) (places rows : List ℕ) → is_some (find nat_cmp j (row_entries size places rows)) ≡ is_among j places
found_among size j [] rows = refl
found_among size j (p ∷ places) rows = elim (p == j) as (λ b. (p == j) ≡ b
    → is_some (cond (eq_by_cmp nat_cmp j p) (Some (take size rows)) (find nat_cmp j (row_entries size places (drop size rows)))) ≡ (b || is_among j places)) [
      | true ↦ λ e. rw (tied_numbers j p ∙ e) refl
      | false ↦ λ e. rw (tied_numbers j p ∙ e) (found_among size j places (drop size rows))
    ] refl

pub row_among : (size j : ℕ) (places rows : List ℕ) → is_some (get (rows_map size places rows) j) ≡ is_among j places
unfolding rows_map
row_among size j places rows = ap is_some (get-from_entries nat_cmp_total (row_entries size places rows) j) ∙ found_among size j places rows

-- the row of the place in position i
pub record StandsAt (size j : ℕ) (places rows row : List ℕ) : Type 0 where
  pub at : ℕ
  pub less : at < length places
  pub place : get_or places at 0 ≡ j
  pub is : row ≡ row_at size rows at

stands : (size j : ℕ) (places rows row : List ℕ) → find nat_cmp j (row_entries size places rows) ≡ Some row → StandsAt size j places rows row
stands size j [] rows row e = absurd (let f : None ≡ Some row = e in cc)
stands size j (p ∷ places) rows row e = elim (p == j) as (λ b. (p == j) ≡ b → cond (eq_by_cmp nat_cmp j p) (Some (take size rows))
    (find nat_cmp j (row_entries size places (drop size rows))) ≡ Some row → StandsAt size j (p ∷ places) rows row) [
      | true ↦ λ same f.
          let here : Some (take size rows) ≡ Some row = rw (tied_numbers j p ∙ same) at f in
          let first : 0 ≡ 0 * size = omega arith in
          record { at = 0; less = omega arith; place = eqb-true p j same; is = (let r : row ≡ take size rows = cc in r) ∙ ap (λ (m : ℕ). take size (drop m rows)) first }
      | false ↦ λ other f.
          let later : find nat_cmp j (row_entries size places (drop size rows)) ≡ Some row = rw (tied_numbers j p ∙ other) at f in
          let s = stands size j places (drop size rows) row later in
          let next : size + s.at * size ≡ suc s.at * size = omega arith in
          record {
            at = suc s.at;
            less = omega (arith, s.less);
            place = s.place;
            is = s.is
                ∙ ap (take size) (drop-drop (s.at * size) size rows ∙ ap (λ (m : ℕ). drop m rows) next);
          }
    ] refl e

pub row_stands : (size j : ℕ) (places rows row : List ℕ) → get (rows_map size places rows) j ≡ Some row → StandsAt size j places rows row
unfolding rows_map
row_stands size j places rows row e = stands size j places rows row (sym (get-from_entries nat_cmp_total (row_entries size places rows) j) ∙ e)

-- the row of a place, by the place's position
found_at : (size j i : ℕ) (places rows : List ℕ)
    → find nat_cmp j (row_entries size places (drop (i * size) rows)) ≡ option_map (row_at size rows) (position_from (λ p. p == j) i places)
found_at size j i [] rows = refl
found_at size j i (p ∷ places) rows = elim (p == j) as (λ b. (p == j) ≡ b → cond (eq_by_cmp nat_cmp j p) (Some (take size (drop (i * size) rows)))
    (find nat_cmp j (row_entries size places (drop size (drop (i * size) rows))))
    ≡ option_map (row_at size rows) (cond b (Some i) (position_from (λ p. p == j) (i + 1) places))) [
      | true ↦ λ e. rw (tied_numbers j p ∙ e) refl
      | false ↦ λ e.
          let next : i * size + size ≡ (i + 1) * size = omega arith in
          rw (tied_numbers j p ∙ e) (ap (λ (xs : List ℕ). find nat_cmp j (row_entries size places xs))
          (drop-drop size (i * size) rows ∙ ap (λ (m : ℕ). drop m rows) next) ∙ found_at size j (i + 1) places rows)
    ] refl

pub row_at_position : (size j : ℕ) (places rows : List ℕ) → get (rows_map size places rows) j ≡ option_map (row_at size rows) (position_from (λ p. p == j) 0 places)
unfolding rows_map
row_at_position size j places rows =
    let none : 0 ≡ 0 * size = omega arith in
    get-from_entries nat_cmp_total (row_entries size places rows) j
    ∙ ap (λ (m : ℕ). find nat_cmp j (row_entries size places (drop m rows))) none ∙ found_at size j 0 places rows

-- a place that isn't among the places has no row
none_of : (o : Option (List ℕ)) → is_some o ≡ false → o ≡ None
none_of None e = refl
none_of (Some r) e = cc

-- ---- no rows

pub rows_of_none : (size : ℕ) (places rows : List ℕ) → places ≡ [] → rows_map size places rows ≡ empty
unfolding rows_map
rows_of_none size places rows none = ap (λ (ps : List ℕ). from_entries (row_entries size ps rows)) none

-- ---- how many rows

-- each place counts once
count_among : (n : ℕ) (places : List ℕ) → All (λ p. p < n) places → AreDifferent places → count_below n (λ j. is_among j places) ≡ length places
count_among n [] below different = count_none n (λ j. false) (λ k less. refl)
count_among n (p ∷ places) below different =
    let others = count_among n places (λ i d less. below (suc i) d (omega arith)) (λ i j d less lt. different (suc i) (suc j) d (omega arith) (omega arith)) in
    count_is_sum n (λ j. is_among j (p ∷ places))
    ∙ sum_with n (λ j. if is_among j places then 1 else 0) (λ j. if is_among j (p ∷ places) then 1 else 0) p 1 (below 0 0 (omega arith))
    (first p places ∙ ap (λ b. (if b then 1 else 0) + 1) (sym (absent p places (λ i d less. different 0 (suc i) d (omega arith) (omega arith)))))
    (λ j apart. ap (λ b. if b then 1 else 0) (elsewhere p j places (λ e. apart (sym e))))
    ∙ ap (λ m. m + 1) (sym (count_is_sum n (λ j. is_among j places)) ∙ others)
    ∙ (let l : length places + 1 ≡ suc (length places) = omega arith in l)
  where
    first : (p : ℕ) (places : List ℕ) → ◌≡◌ {A = ℕ} (if is_among p (p ∷ places) then 1 else 0) 1
    first p places = let e : (p == p) ≡ true = grind (arith, nat_tests) in rw e refl

    absent : (p : ℕ) (places : List ℕ) → ((i : ℕ) (d : ℕ) → i < length places → p ≢ get_or places i d) → is_among p places ≡ false
    absent p [] apart = refl
    absent p (q ∷ places) apart =
        let ne : p ≢ q = apart 0 0 (omega arith) in
        let e : (q == p) ≡ false = grind (arith, nat_tests) in
        rw e (absent p places (λ i d less. apart (suc i) d (omega arith)))

    elsewhere : (p j : ℕ) (places : List ℕ) → p ≢ j → is_among j (p ∷ places) ≡ is_among j places
    elsewhere p j places ne = let e : (p == j) ≡ false = grind (arith, nat_tests) in rw e refl

-- the symbols of a block in memory
pub held_is_length : (k n size : ℕ) (places bytes rows : List ℕ) → IsBlock k n size places bytes
    → held_in (record { k = k; n = n; size = size; rows = rows_map size places rows }) ≡ length places
held_is_length k n size places bytes rows is =
    count_same n (λ j. is_some (get (rows_map size places rows) j)) (λ j. is_among j places)
    (λ j less. row_among size j places rows) ∙ count_among n places is.below is.different

-- ---- one more row

-- a place without a row isn't among the places
pub not_among : (size j : ℕ) (places rows : List ℕ) → get (rows_map size places rows) j ≡ None → is_among j places ≡ false
not_among size j places rows vacant = sym (row_among size j places rows) ∙ ap is_some vacant

apart_from : (j : ℕ) (places : List ℕ) → is_among j places ≡ false → (i : ℕ) (d : ℕ) → i < length places → get_or places i d ≢ j
apart_from j [] absent i d less = absurd (omega arith)
apart_from j (p ∷ places) absent i d less = elim (p == j) as (λ b. (p == j) ≡ b → (b || is_among j places) ≡ false → get_or (p ∷ places) i d ≢ j) [
  | true ↦ λ same f. cc
  | false ↦ λ other f. at_each p places i d less (λ e. let t : (p == j) ≡ true = grind (arith, nat_tests) in cc) (apart_from j places f)
] refl absent
  where
    at_each : (p : ℕ) (places : List ℕ) (i d : ℕ) → i < length (p ∷ places) → p ≢ j
        → ((i : ℕ) (d : ℕ) → i < length places → get_or places i d ≢ j) → get_or (p ∷ places) i d ≢ j
    at_each p places zero d less first others = first
    at_each p places (suc i) d less first others = others i d (omega arith)

-- the block with one more place and its row, before it is solved
pub with_row : (k n size j : ℕ) (places rows row : List ℕ) → IsBlock k n size places rows → j < n → get (rows_map size places rows) j ≡ None
    → length places < k → length row ≡ size → IsBlock k n size (places ++ j ∷ []) (rows ++ row)
with_row k n size j places rows row is less vacant wanting long = record {
  some = is.some;
  wide = is.wide;
  order = is.order;
  fits = is.fits;
  most = omega (arith, length-append places (j ∷ []), wanting);
  below = All-push (λ p. p < n) places j is.below less;
  different = all_pairs_push (λ x y. x ≢ y) places j is.different (λ i d lt. apart_from j places (not_among size j places rows vacant) i d lt);
  whole = length-append rows row ∙ (let l = length-append places (j ∷ []) in let w = is.whole in
      let m : (length places + 1) * size ≡ length places * size + size = omega arith in omega (arith, l, w, m, long, ap (λ (m : ℕ). m * size) l));
}

pub are_places : (k n size : ℕ) (places rows : List ℕ) → IsBlock k n size places rows → 1 ≤ length places → ArePlaces places
are_places k n size places rows is least = record {
  some = least;
  most = omega (arith, is.most, is.order, is.fits);
  different = is.different;
  below = λ i d less. let b = is.below i d less in omega (arith, b, is.fits);
}

-- as many other bytes serve
pub block_with : (k n size : ℕ) (places rows other : List ℕ) → IsBlock k n size places rows → length other ≡ length rows → IsBlock k n size places other
block_with k n size places rows other is same = record {
  some = is.some;
  wide = is.wide;
  order = is.order;
  fits = is.fits;
  most = is.most;
  below = is.below;
  different = is.different;
  whole = same ∙ is.whole;
}

-- the rows with one more
entries_with : (size j : ℕ) (places rows row : List ℕ) → length rows ≡ length places * size → length row ≡ size
    → row_entries size (places ++ j ∷ []) (rows ++ row) ≡ row_entries size places rows ++ (j, row) ∷ []
entries_with size j [] rows row whole long =
    let none : length rows ≡ 0 = omega (arith, whole) in
    let empty_rows : rows ≡ [] = nothing_listed rows none in
    rw empty_rows (ap (λ (r : List ℕ). (j, r) ∷ []) (take_all size row (omega (arith, long))))
entries_with size j (p ∷ places) rows row whole long =
    let split : suc (length places) * size ≡ size + length places * size = omega arith in
    let enough : size ≤ length rows = omega (arith, whole, split) in
    let rest : length (drop size rows) ≡ length places * size = omega (arith, length-drop size rows, whole, split) in
    ap (λ (r : List ℕ). (p, r) ∷ row_entries size (places ++ j ∷ []) (drop size (rows ++ row))) (take-append-le size rows row enough)
    ∙ ap (λ (r : List ℕ). (p, take size rows) ∷ row_entries size (places ++ j ∷ []) r) (drop-append-le size rows row enough)
    ∙ ap (λ (es : List (ℕ × List ℕ)). (p, take size rows) ∷ es) (entries_with size j places (drop size rows) row rest long)

pub map_with : (size j : ℕ) (places rows row : List ℕ) → length rows ≡ length places * size → length row ≡ size → get (rows_map size places rows) j ≡ None
    → rows_map size (places ++ j ∷ []) (rows ++ row) ≡ insert (rows_map size places rows) j row
unfolding rows_map
map_with size j places rows row whole long vacant =
    ap from_entries (entries_with size j places rows row whole long)
    ∙ from_entries_push nat_cmp_total nat_cmp-IsAntisymmetric (row_entries size places rows)
    j row (sym (get-from_entries nat_cmp_total (row_entries size places rows) j) ∙ vacant)

-- ---- the steps

missing_and : (places : List ℕ) (m : ℕ) → missing_below places m + count_below m (λ j. is_among j places) ≡ m
missing_and places zero = refl
missing_and places (suc m) = one_more (is_among m places) (missing_below places m) (count_below m (λ j. is_among j places)) m (missing_and places m)
  where
    one_more : (b : Bool) (x y m : ℕ) → x + y ≡ m → (x + (if b then 0 else 1)) + (y + (if b then 1 else 0)) ≡ suc m
    one_more true x y m e = omega (arith, e)
    one_more false x y m e = omega (arith, e)

steps_by_count : (count k missed sources : ℕ) → count ≤ k → (count ≡ k → missed + sources ≡ k)
    → (if count == k then missed * count else 0) ≡ (if nat_le k count then (k - sources) * k else 0)
steps_by_count count k missed sources most split = elim (count == k) as (λ b. (count == k) ≡ b
    → (if b then missed * count else 0) ≡ (if nat_le k count then (k - sources) * k else 0)) [
      | true ↦ λ e.
          let same = eqb-true count k e in
          let le : nat_le k count ≡ true = grind (arith, nat_tests) in
          let sum = split same in
          let left : k - sources ≡ missed = omega (arith, sum) in
          rw (le, left, same) refl
      | false ↦ λ e. let le : nat_le k count ≡ false = grind (arith, nat_tests) in rw le refl
    ] refl

pub steps_with : (k n size : ℕ) (places rows : List ℕ) → IsBlock k n size places rows
    → steps_when_full k places ≡ solving_steps (record { k = k; n = n; size = size; rows = rows_map size places rows })
steps_with k n size places rows is =
    let held = held_is_length k n size places rows rows is in
    let sources : sources_in (record { k = k; n = n; size = size; rows = rows_map size places rows }) ≡ count_below k (λ j. is_among j places) =
    count_same k (λ j. is_some (get (rows_map size places rows) j)) (λ j. is_among j places) (λ j less. row_among size j places rows) in
    steps_by_count (length places) k (missing places) (count_below k (λ j. is_among j places)) is.most
    (λ e. ap (λ (m : ℕ). missing_below places m + count_below k (λ j. is_among j places)) e ∙ missing_and places k)
    ∙ ap (λ (m : ℕ). if nat_le k m then (k - count_below k (λ j. is_among j places)) * k else 0) (sym held)
    ∙ ap (λ (m : ℕ). if nat_le k (held_in (record { k = k; n = n; size = size; rows = rows_map size places rows })) then (k - m) * k else 0) (sym sources)

-- ---- solved

-- a block with k symbols has k places
pub places_when_full : (k n size : ℕ) (places bytes rows : List ℕ) → IsBlock k n size places bytes
    → is_full (record { k = k; n = n; size = size; rows = rows_map size places rows }) ≡ true → length places ≡ k
places_when_full k n size places bytes rows is full =
    let least : k ≤ length places = at_most k (length places) (ap (nat_le k) (sym (held_is_length k n size places bytes rows is)) ∙ full) in
    omega (arith, least, is.most)
  where
    at_most : (n m : ℕ) → nat_le n m ≡ true → n ≤ m
    at_most n m h = grind (arith, nat_tests)

-- and one with fewer has fewer
pub places_when_open : (k n size : ℕ) (places bytes rows : List ℕ) → IsBlock k n size places bytes
    → is_full (record { k = k; n = n; size = size; rows = rows_map size places rows }) ≡ false → length places < k
places_when_open k n size places bytes rows is full =
    fewer k (length places) (ap (nat_le k) (sym (held_is_length k n size places bytes rows is)) ∙ full)
  where
    fewer : (n m : ℕ) → nat_le n m ≡ false → m < n
    fewer n m h = grind (arith, nat_tests)

-- its rows are symbols of the source rows
source_of : (k n size : ℕ) (places source : List ℕ) → IsBlock k n size places source → AreBytes source → length places ≡ k
    → IsSource (record { k = k; n = n; size = size; rows = rows_map size places (rows_held k size places source) }) source
source_of k n size places source is are all = record {
  long = is.whole ∙ ap (λ (m : ℕ). m * size) all;
  symbols = λ j row found.
      let s = row_stands size j places (rows_held k size places source) row found in
      let row_is : symbol_row k size source j ≡ row =
      ap (symbol_row k size source) (sym s.place) ∙ sym (row_of_symbols k size s.at source places s.less)
      ∙ ap (λ (xs : List ℕ). row_at size xs s.at) (sym (held_when_full k size places source all)) ∙ sym s.is in
      subst (IsSymbolRow (cut k size source) size j) row_is
      (symbol_row_is k size j source (omega (arith, is.order, is.fits)) are);
}

pub solved_of : (k n size : ℕ) (places source : List ℕ) → IsBlock k n size places source → AreBytes source → length places ≡ k
    → IsSolved (record { k = k; n = n; size = size; rows = rows_map size places (rows_held k size places source) }) places source
solved_of k n size places source is are all = record {
  many = all;
  rows = ap (rows_map size places) (held_when_full k size places source all);
  source = source_of k n size places source is are all;
}

-- ---- taken back

pub front_of : (xs ys : List ℕ) (n : ℕ) → n ≡ length ys → take (length (xs ++ ys) - n) (xs ++ ys) ≡ xs
front_of xs ys n e = take_at xs ys (length (xs ++ ys) - n) (omega (arith, e, length-append xs ys))

-- a symbol and the zeros behind it, by a list's own filling up
pub filled_up : (rows symbol : List ℕ) (size n m : ℕ) → length symbol ≤ size → n ≡ length rows + size → m ≡ length rows + length symbol
    → take n (rows ++ symbol) ++ replicate (n - m) 0 ≡ rows ++ zero_filled size symbol
unfolding zero_filled
filled_up rows symbol size n m within whole front =
    let left : n - m ≡ size - length symbol = omega (arith, whole, front, within) in
    ap (λ (xs : List ℕ). xs ++ replicate (n - m) 0) (take_all n (rows ++ symbol) (omega (arith, length-append rows symbol, whole, within)))
    ∙ ap (λ (i : ℕ). (rows ++ symbol) ++ replicate i 0) left
    ∙ append_assoc rows symbol (replicate (size - length symbol) 0)
