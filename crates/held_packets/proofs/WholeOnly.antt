-- What is whole is the one object whose symbols at the held places are the held rows.
use Rattle.std.proofs.Common.{◌≡◌, ◌≢◌, ℕ, zero, suc, ◌+◌, ◌*◌, ◌<◌, ◌≤◌, Bool, true, List, [], ◌++◌, length, get_or, take, drop}
use Rattle.std.proofs.Common.{refl, sym, ap, subst, ◌∙◌, arith, All, AllPairs, Option, Some, None}
use Rattle.std.specs.Prelude.{is_some, nat_le, unwrap_or, slice_index}
use Rattle.std.specs.FinMap.{get}
use Rattle.std.proofs.Math.Seq.{take-add}
use Rattle.std.proofs.lemmas.Bool.Decides.{nat_tests}
use Rattle.std.proofs.lemmas.List.{ext_get_or, get_or-map, get_or-drop, get_or-take, length-take, length-drop, length-map, take_all}
use Rattle.std.proofs.lemmas.Nat.{mul-le}
use Rattle.std.proofs.lemmas.List.FromFn.{get_or-map-range_with_len, length-map-range_with_len}
use Rattle.std.proofs.lemmas.List.Elements.{All-take}
use Rattle.oti_blocks.specs.Partition.{ObjectInformation, IsSound, sources, blocks, size_at, start_at, encoding_at, length_of, symbol_of}
use Rattle.oti_blocks.proofs.Public.{size_bounds, encoding_at_bounds, block_end, start-next, start_last}
use Rattle.rs_code.specs.Symbol.{IsSymbol}
use Rattle.rs_code.specs.SourceRows.{cut, column}
use Rattle.rs_code.specs.Weights.{ArePlaces}
use Rattle.rs_code.proofs.Public.{get_or-column, length-column}
use Rattle.wire_bytes.specs.Below.{join_below, which_below}
use Rattle.wire_bytes.proofs.Public.{join_same, length_which, IsPassing, which_pass, which_differ, passes_below}
use Rattle.held_packets.specs.Held.{Held, place, row_at, is_held, symbols_held}
use Rattle.held_packets.specs.Ready.{is_ready, is_block_ready}
use Rattle.held_packets.specs.Solved.{source_row, source_byte}
use Rattle.held_packets.specs.HeldPair.{IsHeldPair}
use Rattle.held_packets.specs.Whole.{row_or_none, held_places, rows_at, block_bytes, bytes_when_ready, whole}
use Rattle.held_packets.specs.ObjectRows.{AreSourceRows}
use Rattle.held_packets.proofs.Counting.{held_at}
use Rattle.held_packets.proofs.Solved.{HaveSymbols, byte_from_symbols}

-- ---- rows joined again

-- rows cut from bytes, one after the other, are the bytes
join_rows : (n size : ℕ) (xs : List ℕ) → join_below n (λ i. take size (drop (i * size) xs)) ≡ take (n * size) xs
join_rows zero size xs = let none : 0 ≡ 0 * size = omega arith in ap (λ (m : ℕ). take m xs) none
join_rows (suc n) size xs =
    let more : suc n * size ≡ n * size + size = omega arith in
    ap (λ (ys : List ℕ). ys ++ take size (drop (n * size) xs)) (join_rows n size xs) ∙ sym (ap (λ (m : ℕ). take m xs) more ∙ take-add (n * size) size xs)

-- and blocks cut from the rows of an object
join_blocks : (o : ObjectInformation) (xs : List ℕ) (n : ℕ) → IsSound o → n ≤ blocks o
    → join_below n (λ b. take (size_at o b * symbol_of o) (drop (start_at o b * symbol_of o) xs)) ≡ take (start_at o n * symbol_of o) xs
join_blocks o xs zero sound le = let none : 0 ≡ 0 * symbol_of o = omega arith in ap (λ (m : ℕ). take m xs) none
join_blocks o xs (suc n) sound le =
    let one : suc n ≡ n + 1 = omega arith in
    let next : start_at o (suc n) ≡ start_at o n + size_at o n = ap (start_at o) one ∙ start-next o sound n (omega arith) in
    let split : (start_at o n + size_at o n) * symbol_of o ≡ start_at o n * symbol_of o + size_at o n * symbol_of o = omega arith in
    let more : start_at o (suc n) * symbol_of o ≡ start_at o n * symbol_of o + size_at o n * symbol_of o = ap (λ (m : ℕ). m * symbol_of o) next ∙ split in
    ap (λ (ys : List ℕ). ys ++ take (size_at o n * symbol_of o) (drop (start_at o n * symbol_of o) xs)) (join_blocks o xs n sound (omega arith))
    ∙ sym (ap (λ (m : ℕ). take m xs) more ∙ take-add (start_at o n * symbol_of o) (size_at o n * symbol_of o) xs)

-- ---- the held places of a block that is ready

pub length_places : (held : Held) (t b : ℕ) (o : ObjectInformation) → is_block_ready held t o b ≡ true → length (held_places held t o b) ≡ size_at o b
unfolding held_places
length_places held t b o ready =
    let enough : size_at o b ≤ symbols_held held t o b = at_most (size_at o b) (symbols_held held t o b) ready in
    omega (arith, length-take (size_at o b) (which_below (encoding_at o b) (held_at held t b)), length_which (encoding_at o b) (held_at held t b), enough)
  where
    at_most : (n m : ℕ) → nat_le n m ≡ true → n ≤ m
    at_most n m h = grind (arith, nat_tests)

pub places_pass : (held : Held) (t b : ℕ) (o : ObjectInformation) → All (IsPassing (encoding_at o b) (held_at held t b)) (held_places held t o b)
unfolding held_places
places_pass held t b o = All-take (IsPassing (encoding_at o b) (held_at held t b)) (size_at o b)
    (which_below (encoding_at o b) (held_at held t b)) (which_pass (encoding_at o b) (held_at held t b))

places_differ : (held : Held) (t b : ℕ) (o : ObjectInformation) → AllPairs (λ x y. x ≢ y) (held_places held t o b)
unfolding held_places
places_differ held t b o i j d less lt =
    let xs = which_below (encoding_at o b) (held_at held t b) in
    let within : j < size_at o b = omega (arith, length-take (size_at o b) xs) in
    let inside : j < length xs = omega (arith, length-take (size_at o b) xs) in
    rw (get_or-take (size_at o b) xs i d (omega arith), get_or-take (size_at o b) xs j d within) (which_differ (encoding_at o b) (held_at held t b) i j d less inside)

-- the held places of a ready block are places of the code
pub are_places : (held : Held) (t b : ℕ) (o : ObjectInformation) → IsSound o → b < blocks o → is_block_ready held t o b ≡ true → ArePlaces (held_places held t o b)
are_places held t b o sound less ready =
    let count = length_places held t b o ready in
    let bounds = size_bounds o sound b less in
    let most = encoding_at_bounds o sound b less in record {
      some = omega (arith, count, bounds.0);
      most = omega (arith, count, bounds.1, sound.block_within, sound.max_n_fits);
      different = places_differ held t b o;
      below = λ k d lt. let h = places_pass held t b o k d lt in omega (arith, h.below, most.1, sound.max_n_fits);
    }

-- ---- one block

-- what the held rows are symbols of, as bytes from where the block starts
abbrev block_from : ObjectInformation → List ℕ → ℕ → List ℕ
block_from o rows b = drop (start_at o b * symbol_of o) rows

-- the value at a place of an option that is there
there : (o : Option (List ℕ)) → is_some o ≡ true → o ≡ Some (unwrap_or o [])
there None e = cc
there (Some row) e = refl

-- each column of held rows has the symbols of the column of rows
have_symbols : (held : Held) (t b at : ℕ) (o : ObjectInformation) (rows : List ℕ) → AreSourceRows held t o rows → b < blocks o → at < symbol_of o
    → HaveSymbols (column (cut (size_at o b) (symbol_of o) (block_from o rows b)) at) (held_places held t o b) (column (rows_at held t b (held_places held t o b)) at)
have_symbols held t b at o rows are less lt i within =
    let places = held_places held t o b in
    let j = get_or places i 0 in
    let passing = places_pass held t b o i 0 within in
    let row = row_or_none held t b j in
    let found : row_at held (place t b j) ≡ Some row = there (row_at held (place t b j)) passing.passes in
    let is = (are.symbols b j row less found).symbols at lt in
    let many : i < length (rows_at held t b places) = omega (arith, length-map places (λ j. row_or_none held t b j)) in
    let value : get_or (column (rows_at held t b places) at) i 0 ≡ slice_index row at =
    get_or-map (λ (r : List ℕ). slice_index r at) (rows_at held t b places) i [] 0 many
    ∙ ap (λ (r : List ℕ). slice_index r at) (get_or-map (λ j. row_or_none held t b j) places i 0 [] within) in
    subst (IsSymbol (column (cut (size_at o b) (symbol_of o) (block_from o rows b)) at) j) (sym value) is

-- row i of the block
row_is : (held : Held) (t b i : ℕ) (o : ObjectInformation) (rows : List ℕ) → IsSound o
    → AreSourceRows held t o rows → b < blocks o → is_block_ready held t o b ≡ true → i < size_at o b
    → source_row (symbol_of o) (held_places held t o b) (rows_at held t b (held_places held t o b)) i ≡ take (symbol_of o) (drop (i * symbol_of o) (block_from o rows b))
unfolding source_row
row_is held t b i o rows sound are less ready lt =
    let places = held_places held t o b in
    let held_rows = rows_at held t b places in
    let block = block_from o rows b in
    let count = length_places held t b o ready in
    let ends = block_end o sound b less in
    let enough : (start_at o b + size_at o b) * symbol_of o ≤ length rows = subst (λ (n : ℕ). (start_at o b + size_at o b) * symbol_of o ≤ n)
    (sym are.long) (scaled (start_at o b + size_at o b) (sources o) (symbol_of o) ends) in
    let room : i * symbol_of o + symbol_of o ≤ length block =
    omega (arith, length-drop (start_at o b * symbol_of o) rows, enough, scaled (i + 1) (size_at o b) (symbol_of o) (omega arith)) in
    ext_get_or 0 _ _
    (length-map-range_with_len (λ at. source_byte places (column held_rows at) i) 0 (symbol_of o)
    ∙ sym (let l = length-take (symbol_of o) (drop (i * symbol_of o) block) in let m = length-drop (i * symbol_of o) block in omega (arith, l, m, room)))
    (λ at within.
    let lat : at < symbol_of o = omega (arith, within, length-map-range_with_len (λ at. source_byte places (column held_rows at) i) 0 (symbol_of o)) in
    let column_is = byte_from_symbols (column (cut (size_at o b) (symbol_of o) block) at) places (column held_rows at) i (are_places held t b o sound less ready)
    (length-column (size_at o b) (symbol_of o) at block ∙ sym count) (length-map held_rows (λ (r : List ℕ). slice_index r at)
    ∙ length-map places (λ j. row_or_none held t b j)) (have_symbols held t b at o rows are less lat) (omega (arith, count)) in
    get_or-map-range_with_len (λ at. source_byte places (column held_rows at) i) 0 (symbol_of o) at at 0 lat (omega arith)
    ∙ column_is
    ∙ get_or-column (size_at o b) (symbol_of o) at i block lt lat
    ∙ sym (get_or-take (symbol_of o) (drop (i * symbol_of o) block) at 0 lat ∙ get_or-drop (i * symbol_of o) block at 0))
  where
    scaled : (a b e : ℕ) → a ≤ b → a * e ≤ b * e
    scaled a b e le = mul-le a e b e le (omega arith)

-- the bytes of the block
block_is : (held : Held) (t b : ℕ) (o : ObjectInformation) (rows : List ℕ) → IsSound o → AreSourceRows held t o rows → b < blocks o → is_block_ready held t o b ≡ true
    → block_bytes held t o b ≡ take (size_at o b * symbol_of o) (block_from o rows b)
unfolding block_bytes
block_is held t b o rows sound are less ready =
    join_same (size_at o b) (λ i. source_row (symbol_of o) (held_places held t o b) (rows_at held t b (held_places held t o b)) i)
    (λ i. take (symbol_of o) (drop (i * symbol_of o) (block_from o rows b)))
    (λ i lt. row_is held t b i o rows sound are less ready lt)
    ∙ join_rows (size_at o b) (symbol_of o) (block_from o rows b)

-- what is whole of an object that is ready, by any rows whose symbols at the held places are the held rows
pub whole_only : (held : Held) (t : ℕ) (o : ObjectInformation) (rows : List ℕ) → IsHeldPair held
    → get held.objects t ≡ Some o → is_ready held t o ≡ true → AreSourceRows held t o rows
    → whole held t ≡ Some (take (length_of o) rows)
unfolding whole
whole_only held t o rows pair open_ ready are =
    let sound = pair.sound t o open_ in
    let joined : join_below (blocks o) (λ b. block_bytes held t o b) ≡ rows =
    join_same (blocks o) (λ b. block_bytes held t o b) (λ b. take (size_at o b * symbol_of o) (block_from o rows b))
    (λ b less. block_is held t b o rows sound are less (passes_below (blocks o) b (is_block_ready held t o) ready less))
    ∙ join_blocks o rows (blocks o) sound (omega arith)
    ∙ take_all (start_at o (blocks o) * symbol_of o) rows (let s = start_last o sound in omega (arith, are.long, ap (λ (n : ℕ). n * symbol_of o) s)) in
    ap (bytes_when_ready held t) open_ ∙ rw ready (ap (λ (xs : List ℕ). Some (take (length_of o) xs)) joined)
