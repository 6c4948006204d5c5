-- What is whole has the held rows as its symbols at the held places, whatever bytes they are.
use Rattle.std.proofs.Common.{◌≡◌, ℕ, zero, suc, ◌+◌, ◌*◌, ◌<◌, ◌≤◌, true, List, [], ◌++◌, length, get_or, drop, refl, sym, ap}
use Rattle.std.proofs.Common.{subst, ◌∙◌, arith, inl, inr, Option, Some, None}
use Rattle.std.specs.Prelude.{is_some, unwrap_or, slice_index}
use Rattle.std.specs.FinMap.{get}
use Rattle.std.proofs.Math.ListN.{get_or-append}
use Rattle.std.proofs.lemmas.Bool.{cases_lt}
use Rattle.std.proofs.lemmas.Nat.{mul-le}
use Rattle.std.proofs.lemmas.List.{ext_get_or, get_or-map, get_or-drop, get_or-append-add, get_or_past, length-append, length-map, take_all}
use Rattle.std.proofs.lemmas.List.FromFn.{get_or-map-range_with_len, length-map-range_with_len}
use Rattle.gf256.specs.Polynomial.{AreBytes, power}
use Rattle.gf256.proofs.Public.{power_lt}
use Rattle.oti_blocks.specs.Partition.{ObjectInformation, IsSound, blocks, size_at, start_at, encoding_at, symbol_of}
use Rattle.oti_blocks.proofs.Public.{start-next, start_last}
use Rattle.rs_code.specs.Symbol.{IsSymbol}
use Rattle.rs_code.specs.SourceRows.{cut, column}
use Rattle.rs_code.specs.Weights.{ArePlaces, point_of}
use Rattle.rs_code.proofs.Public.{places_are_points, polynomial_weighed, weighed_after, get_or-column, length-column}
use Rattle.wire_bytes.specs.Below.{join_below, which_below, list_below}
use Rattle.wire_bytes.proofs.Public.{byte_at_place, bytes_by_place, length_which, which_has, passes_below}
use Rattle.held_packets.specs.Held.{Held, place, row_at, is_held, symbols_held}
use Rattle.held_packets.specs.Ready.{is_ready, is_block_ready}
use Rattle.held_packets.specs.HeldPair.{IsHeldPair, AreByteRows}
use Rattle.held_packets.specs.Solved.{interpolated, source_byte, source_row}
use Rattle.held_packets.specs.Whole.{row_or_none, held_places, rows_at, block_bytes}
use Rattle.held_packets.specs.ObjectRows.{AreSourceRows}
use Rattle.held_packets.proofs.Solved.{HaveSymbols}
use Rattle.held_packets.proofs.WholeOnly.{are_places, length_places}

-- ---- the column that is computed has the symbols

solved_has : (places values : List ℕ) → ArePlaces places → AreBytes values → length values ≡ length places
    → HaveSymbols (list_below (length places) (source_byte places values)) places values
unfolding interpolated
solved_has places values are bytes count i less =
    let k = length places in
    let points = places_are_points places are in
    let g = polynomial_weighed (point_of places) k values k points count bytes (omega arith) in
    let long = length-map-range_with_len (source_byte places values) 0 k in
    record {
      coefs = g.coefs;
      count = g.count ∙ sym long;
      bytes = g.bytes;
      source = λ n lt.
          let within : n < k = omega (arith, lt, long) in
          g.values (power n) (power_lt n) ∙ sym (get_or-map-range_with_len (source_byte places values) 0 k n n 0 within (omega arith));
      symbol = sym (g.values (point_of places i) (power_lt (get_or places i 0)) ∙ weighed_after (point_of places) k values k i points count bytes (omega arith) less);
    }

-- ---- a place of joined lists

-- where each list starts, by the lengths of those in front
pub record Starts (n : ℕ) (f : ℕ → List ℕ) (starts : ℕ → ℕ) : Type 0 where
  pub first : starts 0 ≡ 0
  pub next : (c : ℕ) → c < n → starts (c + 1) ≡ starts c + length (f c)

fewer : (n : ℕ) (f : ℕ → List ℕ) (starts : ℕ → ℕ) → Starts (suc n) f starts → Starts n f starts
fewer n f starts s = record { first = s.first; next = λ c less. s.next c (omega arith) }

length_join : (n : ℕ) (f : ℕ → List ℕ) (starts : ℕ → ℕ) → Starts n f starts → length (join_below n f) ≡ starts n
length_join zero f starts s = sym s.first
length_join (suc n) f starts s =
    let one : suc n ≡ n + 1 = omega arith in
    omega (arith, length-append (join_below n f) (f n), length_join n f starts (fewer n f starts s), s.next n (omega arith), ap starts one)

get_or-join : (n : ℕ) (f : ℕ → List ℕ) (starts : ℕ → ℕ) (c i : ℕ) → Starts n f starts
    → c < n → i < length (f c) → get_or (join_below n f) (starts c + i) 0 ≡ get_or (f c) i 0
get_or-join zero f starts c i s less within = absurd (omega arith)
get_or-join (suc n) f starts c i s less within = elim (cases_lt c n) [
  | inl before ↦
      let rest = fewer n f starts s in
      get_or-append (join_below n f) (f n) 0 (starts c + i) (omega (arith, length_join n f starts rest, ends_before n f starts c rest before, within))
      ∙ get_or-join n f starts c i rest before within
  | inr at ↦
      let same : c ≡ n = omega arith in
      let long = length_join n f starts (fewer n f starts s) in
      let place_is : starts c + i ≡ length (join_below n f) + i = omega (arith, long, ap starts same) in
      ap (λ m. get_or (join_below n f ++ f n) m 0) place_is ∙ get_or-append-add (join_below n f) (f n) i 0 ∙ ap (λ m. get_or (f m) i 0) (sym same)
] where
  ends_before : (m : ℕ) (g : ℕ → List ℕ) (ss : ℕ → ℕ) (a : ℕ) → Starts m g ss → a < m → ss a + length (g a) ≤ ss m
  ends_before zero g ss a r lt = absurd (omega arith)
  ends_before (suc m) g ss a r lt =
      let one : suc m ≡ m + 1 = omega arith in
      elim (cases_lt a m) [
        | inl b ↦ omega (arith, ends_before m g ss a (fewer m g ss r) b, r.next m (omega arith), ap ss one)
        | inr e ↦ let is : a ≡ m = omega arith in omega (arith, r.next m (omega arith), ap ss one, ap ss is, ap (λ n. length (g n)) is)
      ]

-- ---- the rows of a block, and the blocks of an object

length_row : (size i : ℕ) (places : List ℕ) (rows : List (List ℕ)) → length (source_row size places rows i) ≡ size
unfolding source_row
length_row size i places rows = length-map-range_with_len (λ at. source_byte places (column rows at) i) 0 size

byte_of_row : (size i at : ℕ) (places : List ℕ) (rows : List (List ℕ)) → at < size → get_or (source_row size places rows i) at 0 ≡ source_byte places (column rows at) i
unfolding source_row
byte_of_row size i at places rows less = get_or-map-range_with_len (λ n. source_byte places (column rows n) i) 0 size at at 0 less (omega arith)

row_starts : (k size : ℕ) (places : List ℕ) (rows : List (List ℕ)) → Starts k (λ i. source_row size places rows i) (λ i. i * size)
row_starts k size places rows = record {
  first = let none : 0 * size ≡ 0 = omega arith in none;
  next = λ c less. let more : (c + 1) * size ≡ c * size + size = omega arith in more ∙ ap (λ n. c * size + n) (sym (length_row size c places rows));
}

-- the computed rows of the block, one after the other
abbrev rows_of_block : Held → ℕ → ObjectInformation → ℕ → ℕ → List ℕ
rows_of_block held t o b i = source_row (symbol_of o) (held_places held t o b) (rows_at held t b (held_places held t o b)) i

length_block : (held : Held) (t b : ℕ) (o : ObjectInformation) → length (block_bytes held t o b) ≡ size_at o b * symbol_of o
unfolding block_bytes
length_block held t b o = length_join (size_at o b) (rows_of_block held t o b) (λ i. i * symbol_of o)
    (row_starts (size_at o b) (symbol_of o) (held_places held t o b) (rows_at held t b (held_places held t o b)))

byte_of_block : (held : Held) (t b i at : ℕ) (o : ObjectInformation) → i < size_at o b → at < symbol_of o
    → get_or (block_bytes held t o b) (i * symbol_of o + at) 0 ≡ source_byte (held_places held t o b) (column (rows_at held t b (held_places held t o b)) at) i
unfolding block_bytes
byte_of_block held t b i at o less within =
    let places = held_places held t o b in
    let rows = rows_at held t b places in
    get_or-join (size_at o b) (rows_of_block held t o b) (λ n. n * symbol_of o) i
    at (row_starts (size_at o b) (symbol_of o) places rows) less (omega (arith, length_row (symbol_of o) i places rows, within))
    ∙ byte_of_row (symbol_of o) i at places rows within

block_starts : (held : Held) (t : ℕ) (o : ObjectInformation) → IsSound o → Starts (blocks o) (λ b. block_bytes held t o b) (λ b. start_at o b * symbol_of o)
block_starts held t o sound = record {
  first = let none : 0 * symbol_of o ≡ 0 = omega arith in none;
  next = λ c less.
      let split : (start_at o c + size_at o c) * symbol_of o ≡ start_at o c * symbol_of o + size_at o c * symbol_of o = omega arith in
      ap (λ n. n * symbol_of o) (start-next o sound c less) ∙ split ∙ ap (λ n. start_at o c * symbol_of o + n) (sym (length_block held t c o));
}

-- the bytes of all blocks
abbrev pub all_rows : Held → ℕ → ObjectInformation → List ℕ
all_rows held t o = join_below (blocks o) (λ b. block_bytes held t o b)

-- a column of the rows of a block
column_is : (held : Held) (t b at : ℕ) (o : ObjectInformation) → IsSound o → b < blocks o → is_block_ready held t o b ≡ true → at < symbol_of o
    → column (cut (size_at o b) (symbol_of o) (drop (start_at o b * symbol_of o) (all_rows held t o))) at
    ≡ list_below (length (held_places held t o b)) (source_byte (held_places held t o b) (column (rows_at held t b (held_places held t o b)) at))
column_is held t b at o sound less ready within =
    let places = held_places held t o b in
    let rows = rows_at held t b places in
    let k = size_at o b in
    let rest = drop (start_at o b * symbol_of o) (all_rows held t o) in
    let count = length_places held t b o ready in
    let long = length-column k (symbol_of o) at rest in
    let wide = length-map-range_with_len (source_byte places (column rows at)) 0 (length places) in
    ext_get_or 0 _ _ (long ∙ sym count ∙ sym wide)
    (λ i lt.
    let inside : i < k = omega (arith, lt, long) in
    let room : i * symbol_of o + at < length (block_bytes held t o b) =
    omega (arith, length_block held t b o, mul-le (i + 1) (symbol_of o) k (symbol_of o) (omega arith) (omega arith), within) in
    get_or-column k (symbol_of o) at i rest inside within
    ∙ get_or-drop (start_at o b * symbol_of o) (all_rows held t o) (i * symbol_of o + at) 0
    ∙ get_or-join (blocks o) (λ c. block_bytes held t o c) (λ c. start_at o c * symbol_of o) b (i * symbol_of o + at) (block_starts held t o sound) less room
    ∙ byte_of_block held t b i at o inside within
    ∙ sym (get_or-map-range_with_len (source_byte places (column rows at)) 0 (length places) i i 0 (omega (arith, count, inside)) (omega arith)))

-- ---- the held places are all places that are held

held_are_all : (held : Held) (t b : ℕ) (o : ObjectInformation) → symbols_held held t o b ≤ size_at o b
    → held_places held t o b ≡ which_below (encoding_at o b) (λ j. is_held held (place t b j))
unfolding held_places
held_are_all held t b o most = take_all (size_at o b) (which_below (encoding_at o b) (λ j. is_held held (place t b j)))
    (omega (arith, length_which (encoding_at o b) (λ j. is_held held (place t b j)), most))

-- a row that is held is the symbol of its place, of the computed rows
column_symbol : (held : Held) (t b j at : ℕ) (o : ObjectInformation) (row : List ℕ) → IsHeldPair held
    → AreByteRows held → get held.objects t ≡ Some o → b < blocks o → is_block_ready held t o b ≡ true → at < symbol_of o
    → row_at held (place t b j) ≡ Some row
    → IsSymbol (list_below (length (held_places held t o b))
    (source_byte (held_places held t o b) (column (rows_at held t b (held_places held t o b)) at))) j (slice_index row at)
column_symbol held t b j at o row pair bytes open_ less ready within found =
    let sound = pair.sound t o open_ in
    let places = held_places held t o b in
    let rows = rows_at held t b places in
    let values = column rows at in
    let all = held_are_all held t b o (pair.most t b o open_) in
    let inside = (pair.within t b j row o found open_).1 in
    let stands = which_has (encoding_at o b) (λ n. is_held held (place t b n)) j inside (ap is_some found) in
    let there_ : stands.at < length places = omega (arith, stands.within, ap length all) in
    let place_is : get_or places stands.at 0 ≡ j = ap (λ xs. get_or xs stands.at 0) all ∙ stands.is in
    let row_is : get_or rows stands.at [] ≡ row = get_or-map (λ n. row_or_none held t b n) places stands.at 0 [] there_
    ∙ ap (λ n. row_or_none held t b n) place_is ∙ ap (λ r. unwrap_or r []) found in
    let value_is : get_or values stands.at 0 ≡ slice_index row at =
    get_or-map (λ (r : List ℕ). slice_index r at) rows stands.at [] 0 (omega (arith, length-map places (λ n. row_or_none held t b n), there_))
    ∙ ap (λ (r : List ℕ). slice_index r at) row_is in
    let count : length values ≡ length places = length-map rows (λ (r : List ℕ). slice_index r at) ∙ length-map places (λ n. row_or_none held t b n) in
    let has = solved_has places values (are_places held t b o sound less ready) (value_bytes places rows) count stands.at there_ in
    subst (λ v. IsSymbol (list_below (length places) (source_byte places values)) j v)
    value_is (subst (λ n. IsSymbol (list_below (length places) (source_byte places values)) n (get_or values stands.at 0)) place_is has)
  where
    -- a byte of a row that is held, or 0
    byte_at : (o : Option (List ℕ)) → ((r : List ℕ) → o ≡ Some r → AreBytes r) → (n : ℕ) → slice_index (unwrap_or o []) n < 256
    byte_at None are n = omega arith
    byte_at (Some r) are n = byte_at_place r (are r refl) n

    value_bytes : (places : List ℕ) (rows : List (List ℕ)) → AreBytes (column (rows_at held t b (held_places held t o b)) at)
    value_bytes places rows = bytes_by_place _ (λ i. elim (cases_lt i (length (held_places held t o b))) [
      | inl lt ↦
          let ps = held_places held t o b in
          let rs = rows_at held t b ps in
          let value : get_or (column rs at) i 0 ≡ slice_index (row_or_none held t b (get_or ps i 0)) at =
          get_or-map (λ (r : List ℕ). slice_index r at) rs i [] 0 (omega (arith, length-map ps (λ n. row_or_none held t b n), lt))
          ∙ ap (λ (r : List ℕ). slice_index r at) (get_or-map (λ n. row_or_none held t b n) ps i 0 [] lt) in
          subst (λ (x : ℕ). x < 256) (sym value) (byte_at (row_at held (place t b (get_or ps i 0))) (λ r e. bytes.bytes t b (get_or ps i 0) r e) at)
      | inr past ↦
          let ps = held_places held t o b in
          let rs = rows_at held t b ps in
          subst (λ (x : ℕ). x < 256)
          (sym (get_or_past (column rs at) i
          0 (omega (arith, length-map rs (λ (r : List ℕ). slice_index r at), length-map ps (λ n. row_or_none held t b n), past)))) (omega arith)
    ])

-- the computed rows of a ready object have the held rows as their symbols
pub whole_has : (held : Held) (t : ℕ) (o : ObjectInformation) → IsHeldPair held → AreByteRows held
    → get held.objects t ≡ Some o → is_ready held t o ≡ true → AreSourceRows held t o (all_rows held t o)
whole_has held t o pair bytes open_ ready =
    let sound = pair.sound t o open_ in record {
      long = length_join (blocks o) (λ b. block_bytes held t o b) (λ b. start_at o b * symbol_of o)
          (block_starts held t o sound) ∙ ap (λ n. n * symbol_of o) (start_last o sound);
      symbols = λ b j row less found.
          let done = passes_below (blocks o) b (is_block_ready held t o) ready less in record {
            full = (pair.within t b j row o found open_).2;
            symbols = λ at within. subst (λ c. IsSymbol c j (slice_index row at)) (sym (column_is held t b at o sound less done within))
                (column_symbol held t b j at o row pair bytes open_ less done within found);
          };
    }
