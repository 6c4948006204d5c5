-- The blocks of an object that is ready, one after another.
use Rattle.std.proofs.Common.{◌≡◌, ◌≢◌, ℕ, zero, suc, ◌+◌, ◌*◌, ◌<◌, ◌≤◌, Bool, true, false, cond, List, ◌++◌, length, map}
use Rattle.std.proofs.Common.{take, drop, refl, sym, ap, subst, ◌∙◌, arith, Option, Some, None, eqb-true, inl, inr}
use Rattle.std.specs.Prelude.{◌==◌, nat_le, nat_lt, if◌then◌else◌, is_some, unwrap_or}
use Rattle.std.specs.List.{range_with_len}
use Rattle.std.specs.Ordering.{nat_cmp, eq_by_cmp}
use Rattle.std.specs.Cmp.{nat_cmp_total}
use Rattle.std.specs.FinMap.{FinMap, get, find, get-from_entries, same_map, nat_cmp-IsAntisymmetric}
use Rattle.std.specs.BTreeMap.{BTreeMap}
use Rattle.std.proofs.lemmas.List.{take-append-le, drop-append-le, take_all, drop_at, length-drop, length-append}
use Rattle.std.proofs.lemmas.Nat.{mul-le}
use Rattle.std.proofs.lemmas.Bool.{cases_lt}
use Rattle.std.proofs.lemmas.Bool.Decides.{nat_tests}
use Rattle.oti_blocks.specs.Partition.{ObjectInformation, IsSound, sources, blocks, size_at, start_at, encoding_at, symbol_of}
use Rattle.oti_blocks.proofs.Public.{start-next, block_end, ends_before}
use Rattle.wire_bytes.specs.Below.{list_below}
use Rattle.wire_bytes.proofs.Public.{passes_below}
use Rattle.rs_code.specs.SourceRows.{cut}
use Rattle.object_store.specs.Inner.BlockHeld.{BlockHeld}
use Rattle.object_store.specs.Inner.BlockRows.{rows_map, symbols_at, IsSolved}
use Rattle.object_store.specs.Inner.ObjectHeld.{ObjectHeld, unopened, block_at, symbols_in, is_block_done, is_done, IsShaped, AreRowsBelow}
use Rattle.object_store.specs.Inner.ObjectParts.{object_of, places_of, rows_from, joined_block, joined_parts, ready_object, parts_seen}
use Rattle.object_store.specs.Inner.ObjectParts.{object_seen, AreWithin, AreJoinedBelow}
use Rattle.held_packets.proofs.Public.{tied_numbers}
use Rattle.object_store.proofs.SymbolRows.{symbols_by_cut}
use Rattle.object_store.proofs.WithPacket.{none_in}
use Rattle.object_store.proofs.Joining.{cut_front, open_when_done}

-- ---- what is seen of an object

pub seen_open : (o : ObjectInformation) (parts : BTreeMap ℕ BlockHeld) (waiting : ℕ) (places bytes : List ℕ) → waiting ≢ 0
    → object_seen o parts waiting places bytes ≡ object_of o parts
unfolding parts_seen
seen_open o parts waiting places bytes some = let e : (waiting == 0) ≡ false = grind (arith, nat_tests) in rw e refl

pub seen_ready : (o : ObjectInformation) (parts : BTreeMap ℕ BlockHeld) (waiting : ℕ) (places bytes : List ℕ) → waiting ≡ 0
    → object_seen o parts waiting places bytes ≡ ready_object o places bytes
unfolding parts_seen
seen_ready o parts waiting places bytes none = let e : (waiting == 0) ≡ true = grind (arith, nat_tests) in rw e refl

-- ---- joined blocks by their numbers

found_in_range : {X : Type 0} (f : ℕ → X) (n a q : ℕ) → a ≤ q → q < a + n → find nat_cmp q (map (λ b. (b, f b)) (range_with_len a n)) ≡ Some (f q)
found_in_range f zero a q from less = absurd (omega arith)
found_in_range f (suc n) a q from less = elim (a == q) as (λ x. (a == q) ≡ x
    → cond (eq_by_cmp nat_cmp q a) (Some (f a)) (find nat_cmp q (map (λ b. (b, f b)) (range_with_len (a + 1) n))) ≡ Some (f q)) [
      | true ↦ λ e. rw (tied_numbers q a ∙ e) (ap (λ (b : ℕ). Some (f b)) (eqb-true a q e))
      | false ↦ λ e. rw (tied_numbers q a ∙ e) (found_in_range f n (a + 1) q (later a q from e) (omega arith))
    ] refl
  where
    later : (a q : ℕ) → a ≤ q → (a == q) ≡ false → a + 1 ≤ q
    later a q from other = grind (arith, nat_tests)

found_past_range : {X : Type 0} (f : ℕ → X) (n a q : ℕ) → a + n ≤ q → find nat_cmp q (map (λ b. (b, f b)) (range_with_len a n)) ≡ None
found_past_range f zero a q past = refl
found_past_range f (suc n) a q past =
    let other : (a == q) ≡ false = grind (arith, nat_tests) in
    rw (tied_numbers q a ∙ other) (found_past_range f n (a + 1) q (omega arith))

joined_at : (o : ObjectInformation) (places bytes : List ℕ) (b : ℕ) → b < blocks o → get (joined_parts o places bytes) b ≡ Some (joined_block o places bytes b)
unfolding joined_parts
joined_at o places bytes b less = get-from_entries nat_cmp_total (list_below (blocks o) (λ b. (b, joined_block o places bytes b))) b
    ∙ found_in_range (joined_block o places bytes) (blocks o) 0 b (omega arith) (omega arith)

none_joined_at : (o : ObjectInformation) (places bytes : List ℕ) (b : ℕ) → blocks o ≤ b → get (joined_parts o places bytes) b ≡ None
unfolding joined_parts
none_joined_at o places bytes b past = get-from_entries nat_cmp_total (list_below (blocks o) (λ b. (b, joined_block o places bytes b))) b
    ∙ found_past_range (joined_block o places bytes) (blocks o) 0 b (omega arith)

pub ready_block : (o : ObjectInformation) (places bytes : List ℕ) (b : ℕ) → b < blocks o → block_at (ready_object o places bytes) b ≡ joined_block o places bytes b
ready_block o places bytes b less = ap (λ r. unwrap_or r (unopened o b)) (joined_at o places bytes b less)

-- ---- one block more

-- a block among those of longer lists
joined_front : (o : ObjectInformation) (b : ℕ) (places held bytes source : List ℕ) → start_at o b + size_at o b ≤ length places
    → (start_at o b + size_at o b) * symbol_of o ≤ length bytes → joined_block o (places ++ held) (bytes ++ source) b ≡ joined_block o places bytes b
unfolding joined_block
joined_front o b places held bytes source placed joined =
    let k = size_at o b in
    let e = symbol_of o in
    let s = start_at o b in
    let parts : (s + k) * e ≡ s * e + k * e = omega arith in
    let place_is : places_of o (places ++ held) b ≡ places_of o places b = ap (take k) (drop-append-le s places held (omega (arith, placed)))
    ∙ take-append-le k (drop s places) held (omega (arith, placed, length-drop s places)) in
    let row_is : cut k e (rows_from o (bytes ++ source) b) ≡ cut k e (rows_from o bytes b) =
    ap (cut k e) (drop-append-le (s * e) bytes source (omega (arith, joined, parts)))
    ∙ cut_front k e (drop (s * e) bytes) source (omega (arith, joined, parts, length-drop (s * e) bytes)) in
    ap (λ xs. seen o b (rows_map e (places_of o (places ++ held) b) xs)) (symbols_by_cut k e (rows_from o (bytes ++ source) b)
    (rows_from o bytes b) (places_of o (places ++ held) b) row_is)
    ∙ ap (λ ps. seen o b (rows_map e ps (symbols_at k e (rows_from o bytes b) ps))) place_is
  where
    seen : (o : ObjectInformation) (b : ℕ) → FinMap nat_cmp (List ℕ) → BlockHeld
    seen o b rows = record { k = size_at o b; n = encoding_at o b; size = symbol_of o; rows = rows }

-- the next block
joined_end : (o : ObjectInformation) (n : ℕ) (h : BlockHeld) (places held bytes source : List ℕ) → length places ≡ start_at o n
    → length bytes ≡ start_at o n * symbol_of o → IsShaped o n h → IsSolved h held source → h ≡ joined_block o (places ++ held) (bytes ++ source) n
unfolding joined_block
joined_end o n h places held bytes source placed joined shaped is =
    let many : length held ≤ size_at o n = omega (arith, is.many, shaped.k) in
    let place_is : held ≡ places_of o (places ++ held) n = sym (ap (take (size_at o n)) (drop_at places held (start_at o n) placed) ∙ take_all (size_at o n) held many) in
    let row_is : source ≡ rows_from o (bytes ++ source) n = sym (drop_at bytes source (start_at o n * symbol_of o) joined) in
    let rows_are = is.rows ∙ (λ i. rows_map (shaped.size i) (place_is i) (symbols_at (shaped.k i) (shaped.size i) (row_is i) (place_is i))) in
    λ i. record { k = shaped.k i; n = shaped.n i; size = shaped.size i; rows = rows_are i }

pub joined_next : (o : ObjectHeld) (n : ℕ) (h : BlockHeld) (places held bytes source : List ℕ) → IsSound o.oti → n < blocks o.oti → AreJoinedBelow o n places bytes
    → AreRowsBelow o n bytes → block_at o n ≡ h → IsShaped o.oti n h → IsSolved h held source → AreJoinedBelow o (n + 1) (places ++ held) (bytes ++ source)
joined_next o n h places held bytes source sound less are rows here shaped is = record {
  many = omega (arith, length-append places held, are.many, is.many, shaped.k, start-next o.oti sound n less);
  same = λ b lt. elim (b == n) as (λ x. (b == n) ≡ x → block_at o b ≡ joined_block o.oti (places ++ held) (bytes ++ source) b) [
    | true ↦ λ e. subst (λ (c : ℕ). block_at o c ≡ joined_block o.oti (places ++ held) (bytes ++ source) c)
        (sym (eqb-true b n e)) (here ∙ joined_end o.oti n h places held bytes source are.many rows.long shaped is)
    | false ↦ λ e.
        let before : b < n = earlier b n lt e in
        let ends = ends_before o.oti sound n b before (omega arith) in
        let inside = mul-le (start_at o.oti b + size_at o.oti b) (symbol_of o.oti) (start_at o.oti n) (symbol_of o.oti) ends (omega arith) in
        are.same b before ∙ sym (joined_front o.oti b places held bytes source (omega (arith, ends, are.many)) (omega (arith, inside, rows.long)))
  ] refl;
} where
  earlier : (b n : ℕ) → b < n + 1 → (b == n) ≡ false → b < n
  earlier b n lt other = grind (arith, nat_tests)

-- the room for the places of one block more
pub room_for_places : (o : ObjectHeld) (n : ℕ) (h : BlockHeld) (places held bytes source : List ℕ) → IsSound o.oti → n < blocks o.oti
    → AreJoinedBelow o n places bytes → IsShaped o.oti n h → IsSolved h held source → length places + length held ≤ sources o.oti
room_for_places o n h places held bytes source sound less are shaped is = omega (arith, are.many, is.many, shaped.k, block_end o.oti sound n less)

-- ---- all blocks

-- all of them joined are the object
pub all_joined : (o : ObjectHeld) (places bytes : List ℕ) → IsSound o.oti → is_done o ≡ true → AreWithin o → AreJoinedBelow o (blocks o.oti) places bytes
    → ready_object o.oti places bytes ≡ o
all_joined o places bytes sound done within are =
    λ i. record { oti = o.oti; parts = same_map nat_cmp_total nat_cmp-IsAntisymmetric (joined_parts o.oti places bytes) o.parts each i }
  where
    opened : (r : Option BlockHeld) (d j : BlockHeld) → (r ≡ None → ⊥) → unwrap_or r d ≡ j → Some j ≡ r
    opened None d j some is = absurd (some refl)
    opened (Some h) d j some is = ap (λ g. Some g) (sym is)

    closed : (r : Option BlockHeld) → (is_some r ≡ true → ⊥) → None ≡ r
    closed None none = refl
    closed (Some h) none = absurd (none refl)

    each : (q : ℕ) → get (joined_parts o.oti places bytes) q ≡ get o.parts q
    each q = elim (cases_lt q (blocks o.oti)) [
      | inl less ↦ joined_at o.oti places bytes q less
          ∙ opened (get o.parts q) (unopened o.oti q) (joined_block o.oti places bytes q)
          (λ none. open_when_done o q sound done less (ap (λ r. unwrap_or r (unopened o.oti q)) none)) (are.same q less)
      | inr past ↦ none_joined_at o.oti places bytes q past ∙ closed (get o.parts q) (λ some. let less = within q some in absurd (omega arith))
    ]

-- how many symbols are held of a block once all are done
pub symbols_when_done : (o : ObjectHeld) (b : ℕ) → is_done o ≡ true → AreWithin o → symbols_in o b ≤ size_at o.oti b
    → (if nat_lt b (blocks o.oti) then size_at o.oti b else 0) ≡ symbols_in o b
symbols_when_done o b done within most = elim (nat_lt b (blocks o.oti)) as (λ x. nat_lt b (blocks o.oti) ≡ x → (if x then size_at o.oti b else 0) ≡ symbols_in o b) [
  | true ↦ λ less. as_many (size_at o.oti b) (symbols_in o b) most (passes_below (blocks o.oti) b (is_block_done o) done (is_less b (blocks o.oti) less))
  | false ↦ λ past. sym (none_in o b (ap (λ r. unwrap_or r (unopened o.oti b)) (not_open b past)))
] refl
  where
    is_less : (n m : ℕ) → nat_lt n m ≡ true → n < m
    is_less n m h = grind (arith, nat_tests)

    as_many : (k m : ℕ) → m ≤ k → nat_le k m ≡ true → k ≡ m
    as_many k m most least = grind (arith, nat_tests)

    none_of : (r : Option BlockHeld) → is_some r ≡ false → r ≡ None
    none_of None e = refl
    none_of (Some h) e = cc

    outside : (x : Bool) (n m : ℕ) → nat_lt n m ≡ false → (x ≡ true → n < m) → x ≡ false
    outside true n m past some = absurd (let less = some refl in grind (arith, nat_tests))
    outside false n m past some = refl

    not_open : (b : ℕ) → nat_lt b (blocks o.oti) ≡ false → get o.parts b ≡ None
    not_open b past = none_of (get o.parts b) (outside (is_some (get o.parts b)) b (blocks o.oti) past (within b))
