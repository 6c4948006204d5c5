-- An object with one more symbol.
use Rattle.std.proofs.Common.{◌≡◌, ◌≢◌, ℕ, zero, suc, ◌+◌, ◌-◌, ◌<◌, ◌≤◌, Bool, true, false, cond, List, [], ◌∷◌}
use Rattle.std.proofs.Common.{length, refl, sym, ap, subst, ◌∙◌, arith, Option, Some, None, eqb-true, inl, inr}
use Rattle.std.specs.Prelude.{if◌then◌else◌, is_some, ◌==◌, nat_le, unwrap_or}
use Rattle.std.specs.Ordering.{nat_cmp, eq_by_cmp}
use Rattle.std.specs.Cmp.{nat_cmp_total}
use Rattle.std.specs.FinMap.{empty, get, insert, find, get-insert, get-empty, get-from_entries, same_map, nat_cmp-IsAntisymmetric}
use Rattle.std.specs.Map.{lookup}
use Rattle.std.specs.BTreeMap.{BTreeMap, is_at}
use Rattle.std.specs.BTreeMap as tree
use Rattle.std.proofs.lemmas.Bool.Decides.{nat_tests}
use Rattle.oti_blocks.specs.Partition.{ObjectInformation, blocks, size_at, encoding_at, symbol_of}
use Rattle.oti_blocks.proofs.Public.{size_bounds, last_length_bounds}
use Rattle.alc_packet.specs.Packet.{SymbolPacket, IsPacket, full}
use Rattle.wire_bytes.specs.Below.{count_below, all_below}
use Rattle.wire_bytes.specs.Bytes.{zero_filled}
use Rattle.wire_bytes.proofs.Public.{count_is_sum, sum_with, count_none, count_same, count_most, all_pass, passes_below}
use Rattle.object_store.specs.declared.finding.Finding.TheVariants.{Full, Wanting}
use Rattle.object_store.specs.Inner.BlockHeld.{BlockHeld, has_row, held_in, with_row, finding_in, finding_on}
use Rattle.object_store.specs.Inner.ObjectHeld.{ObjectHeld, unopened, block_at, object_row, symbols_in, is_block_done}
use Rattle.object_store.specs.Inner.ObjectHeld.{is_done, with_packet, finding_at, Joins, IsShaped}
use Rattle.object_store.specs.Inner.ObjectParts.{map_of, AreShaped, MayJoin}
use Rattle.held_packets.proofs.Public.{tied_numbers}

-- ---- trees as maps

found_of : {X : Type 0} (q : ℕ) (es : List (ℕ × X)) → find nat_cmp q es ≡ lookup (is_at (nat_cmp q)) es
found_of q [] = refl
found_of q (e ∷ es) = ap (cond (eq_by_cmp nat_cmp q e.0) (Some e.1)) (found_of q es)

pub get_of : {X : Type 0} (m : BTreeMap ℕ X) (q : ℕ) → get (map_of m) q ≡ tree.get nat_cmp m q
unfolding map_of
get_of m q = get-from_entries nat_cmp_total m.entries q ∙ found_of q m.entries

pub map_updated : {X : Type 0} (m n : BTreeMap ℕ X) (k : ℕ) (v : X) → tree.Updates nat_cmp m n k (Some v) → map_of n ≡ insert (map_of m) k v
map_updated {X = X} m n k v u = same_map nat_cmp_total nat_cmp-IsAntisymmetric (map_of n) (insert (map_of m) k v) (λ q.
    get_of n q ∙ u.0 q ∙ ap (λ (x : Bool). cond x (Some v) (tree.get nat_cmp m q)) (either_way k q)
    ∙ ap (cond (eq_by_cmp nat_cmp q k) (Some v)) (sym (get_of m q)) ∙ sym (get-insert nat_cmp_total (map_of m) k v q))
  where
    either_way : (k q : ℕ) → is_at (nat_cmp k) q ≡ eq_by_cmp nat_cmp q k
    either_way k q = grind (arith, nat_tests)

pub map_same : {X : Type 0} (m n : BTreeMap ℕ X) → n.entries ≡ m.entries → map_of n ≡ map_of m
map_same m n e = same_map nat_cmp_total nat_cmp-IsAntisymmetric (map_of n) (map_of m) (λ q. get_of n q ∙ ap (lookup (is_at (nat_cmp q))) e ∙ sym (get_of m q))

pub map_none : {X : Type 0} (m : BTreeMap ℕ X) → m.entries ≡ [] → map_of m ≡ empty
map_none m e = same_map nat_cmp_total nat_cmp-IsAntisymmetric (map_of m) empty (λ q. get_of m q ∙ ap (lookup (is_at (nat_cmp q))) e ∙ sym (get-empty nat_cmp q))

-- ---- blocks

-- the block in a tree's own words
pub block_in_tree : (o : ObjectInformation) (m : BTreeMap ℕ BlockHeld) (b : ℕ)
    → block_at (record { oti = o; parts = map_of m }) b ≡ unwrap_or (tree.get nat_cmp m b) (unopened o b)
block_in_tree o m b = ap (λ r. unwrap_or r (unopened o b)) (get_of m b)

-- a block that isn't open has no symbols
pub none_in : (o : ObjectHeld) (b : ℕ) → block_at o b ≡ unopened o.oti b → symbols_in o b ≡ 0
none_in o b is = ap (λ (h : BlockHeld). count_below (encoding_at o.oti b) (has_row h)) is
    ∙ count_none (encoding_at o.oti b) (has_row (unopened o.oti b)) (λ j less. ap is_some (get-empty nat_cmp j))

-- a block's own count is the object's
pub held_is_symbols : (o : ObjectHeld) (b : ℕ) → IsShaped o.oti b (block_at o b) → held_in (block_at o b) ≡ symbols_in o b
held_is_symbols o b shaped = ap (λ (n : ℕ). count_below n (has_row (block_at o b))) shaped.n

pub symbol_within : (p : SymbolPacket) → IsPacket p → length p.symbol ≤ symbol_of p.oti
symbol_within p is = elim is.symbol [
  | inl whole ↦ omega (arith, whole.whole)
  | inr cut ↦ omega (arith, cut.cut, (last_length_bounds p.oti is.sound).2)
]

pub filled_is_full : (p : SymbolPacket) → zero_filled (symbol_of p.oti) p.symbol ≡ full p
unfolding zero_filled full
filled_is_full p = refl

-- the block of a packet that joins has room for it
pub may_join : (o : ObjectHeld) (p : SymbolPacket) → IsPacket p → Joins o p → IsShaped o.oti p.sbn (block_at o p.sbn) → MayJoin (block_at o p.sbn) p
may_join o p is joins shaped = record {
  place = omega (arith, shaped.n, is.place, ap (λ (u : ObjectInformation). encoding_at u p.sbn) joins.same);
  vacant = joins.vacant;
  wanting = omega (arith, shaped.k, joins.wanting, held_is_symbols o p.sbn shaped);
  symbol = omega (arith, shaped.size, symbol_within p is, ap (λ (u : ObjectInformation). symbol_of u) joins.same);
}

-- what a packet meets in an open block, and in one that isn't
pub found_in_object : (o : ObjectHeld) (p : SymbolPacket) → o.oti ≡ p.oti
    → IsShaped o.oti p.sbn (block_at o p.sbn) → finding_in (block_at o p.sbn) p.esi p.symbol ≡ finding_at o p
found_in_object o p same shaped =
    ap (λ (k : ℕ). finding_on k (held_in (block_at o p.sbn)) (zero_filled (block_at o p.sbn).size p.symbol) (object_row o p.sbn p.esi)) shaped.k
    ∙ ap (λ (m : ℕ). finding_on (size_at o.oti p.sbn) m (zero_filled (block_at o p.sbn).size p.symbol) (object_row o p.sbn p.esi)) (held_is_symbols o p.sbn shaped)
    ∙ ap (λ (r : List ℕ). finding_on (size_at o.oti p.sbn) (symbols_in o p.sbn) r (object_row o p.sbn p.esi))
    (ap (λ (e : ℕ). zero_filled e p.symbol) (shaped.size ∙ ap (λ (u : ObjectInformation). symbol_of u) same) ∙ filled_is_full p)

pub nothing_in_object : (o : ObjectHeld) (p : SymbolPacket) → IsPacket p → o.oti ≡ p.oti → block_at o p.sbn ≡ unopened o.oti p.sbn → Wanting 0 ≡ finding_at o p
nothing_in_object o p is same closed =
    let some : 1 ≤ size_at o.oti p.sbn = subst (λ (u : ObjectInformation). 1 ≤ size_at u p.sbn) (sym same) (size_bounds p.oti is.sound p.sbn is.block).0 in
    let none : object_row o p.sbn p.esi ≡ None = ap (λ (h : BlockHeld). get h.rows p.esi) closed ∙ get-empty nat_cmp p.esi in
    let not_full : nat_le (size_at o.oti p.sbn) 0 ≡ false = not_yet (size_at o.oti p.sbn) some in
    ap (λ x. if x then Full else Wanting 0) (sym not_full)
    ∙ ap (λ (m : ℕ). if nat_le (size_at o.oti p.sbn) m then Full else Wanting m) (sym (none_in o p.sbn closed))
    ∙ ap (finding_on (size_at o.oti p.sbn) (symbols_in o p.sbn) (full p)) (sym none)
  where
    not_yet : (k : ℕ) → 1 ≤ k → nat_le k 0 ≡ false
    not_yet k some = grind (arith, nat_tests)

-- ---- with one more symbol

pub block_with_packet : (o : ObjectHeld) (p : SymbolPacket) (b : ℕ)
    → block_at (with_packet o p) b ≡ cond (p.sbn == b) (with_row (block_at o p.sbn) p.esi (full p)) (block_at o b)
block_with_packet o p b =
    ap (λ r. unwrap_or r (unopened o.oti b)) (get-insert nat_cmp_total o.parts p.sbn (with_row (block_at o p.sbn) p.esi (full p)) b)
    ∙ ap (λ x. unwrap_or (cond x (Some (with_row (block_at o p.sbn) p.esi (full p))) (get o.parts b)) (unopened o.oti b)) (tied_numbers b p.sbn)
    ∙ either (p.sbn == b) (with_row (block_at o p.sbn) p.esi (full p)) (get o.parts b) (unopened o.oti b)
  where
    either : (x : Bool) (h : BlockHeld) (r : Option BlockHeld) (d : BlockHeld) → unwrap_or (cond x (Some h) r) d ≡ cond x h (unwrap_or r d)
    either true h r d = refl
    either false h r d = refl

itself : (b : ℕ) → (b == b) ≡ true
itself b = grind (arith, nat_tests)

apart : (b c : ℕ) → c ≢ b → (b == c) ≡ false
apart b c ne = grind (arith, nat_tests)

pub block_here : (o : ObjectHeld) (p : SymbolPacket) → block_at (with_packet o p) p.sbn ≡ with_row (block_at o p.sbn) p.esi (full p)
block_here o p = block_with_packet o p p.sbn ∙ ap (λ x. cond x (with_row (block_at o p.sbn) p.esi (full p)) (block_at o p.sbn)) (itself p.sbn)

pub block_elsewhere : (o : ObjectHeld) (p : SymbolPacket) (b : ℕ) → b ≢ p.sbn → block_at (with_packet o p) b ≡ block_at o b
block_elsewhere o p b ne = block_with_packet o p b ∙ ap (λ x. cond x (with_row (block_at o p.sbn) p.esi (full p)) (block_at o b)) (apart p.sbn b ne)

-- the rows of the packet's block
pub row_here : (o : ObjectHeld) (p : SymbolPacket) (j : ℕ) → object_row (with_packet o p) p.sbn j ≡ cond (p.esi == j) (Some (full p)) (object_row o p.sbn j)
row_here o p j =
    ap (λ (h : BlockHeld). get h.rows j) (block_here o p)
    ∙ get-insert nat_cmp_total (block_at o p.sbn).rows p.esi (full p) j
    ∙ ap (λ x. cond x (Some (full p)) (object_row o p.sbn j)) (tied_numbers j p.esi)

-- one more symbol in its block
pub symbols_here : (o : ObjectHeld) (p : SymbolPacket) → p.esi < encoding_at o.oti p.sbn → Joins o p → symbols_in (with_packet o p) p.sbn ≡ symbols_in o p.sbn + 1
symbols_here o p less joins =
    let n = encoding_at o.oti p.sbn in
    let row : (j : ℕ) → has_row (block_at (with_packet o p) p.sbn) j
    ≡ is_some (cond (p.esi == j) (Some (full p)) (object_row o p.sbn j)) = λ j. ap is_some (row_here o p j) in
    count_is_sum n (has_row (block_at (with_packet o p) p.sbn))
    ∙ sum_with n (λ j. if has_row (block_at o p.sbn) j then 1 else 0) (λ j. if has_row (block_at (with_packet o p) p.sbn) j then 1 else 0) p.esi 1 less
    (ap (λ b. if b then 1 else 0) (row p.esi ∙ ap (λ x. is_some (cond x (Some (full p)) (object_row o p.sbn p.esi))) (itself p.esi))
    ∙ ap (λ (r : Option (List ℕ)). (if is_some r then 1 else 0) + 1) (sym joins.vacant))
    (λ j ne. ap (λ b. if b then 1 else 0) (row j ∙ ap (λ x. is_some (cond x (Some (full p)) (object_row o p.sbn j))) (apart p.esi j ne)))
    ∙ ap (λ (m : ℕ). m + 1) (sym (count_is_sum n (has_row (block_at o p.sbn))))

pub shaped_with : (o : ObjectHeld) (p : SymbolPacket) → AreShaped o → AreShaped (with_packet o p)
shaped_with o p shaped b = subst (IsShaped o.oti b) (sym (block_with_packet o p b))
    (elim (p.sbn == b) as (λ x. (p.sbn == b) ≡ x → IsShaped o.oti b (cond x (with_row (block_at o p.sbn) p.esi (full p)) (block_at o b))) [
      | true ↦ λ e. let s = shaped p.sbn in subst (λ (c : ℕ). IsShaped o.oti c (with_row (block_at o p.sbn) p.esi (full p)))
          (eqb-true p.sbn b e) (record { k = s.k; n = s.n; size = s.size })
      | false ↦ λ e. shaped b
    ] refl)

-- ---- how many blocks are done

count_whole : (n : ℕ) (t : ℕ → Bool) → ((b : ℕ) → b < n → t b ≡ true) → count_below n t ≡ n
count_whole n t all = count_same n t (λ b. true) all ∙ ones n
  where
    ones : (n : ℕ) → count_below n (λ b. true) ≡ n
    ones zero = refl
    ones (suc n) = omega (arith, ones n)

-- a full count is full without its last
counts_back : (n : ℕ) (t : ℕ → Bool) (x : Bool) → t n ≡ x → count_below n t + (if x then 1 else 0) ≡ suc n → (count_below n t ≡ n) × (t n ≡ true)
counts_back n t false is e = absurd (let m = count_most n t in omega (arith, e, m))
counts_back n t true is e = (omega (arith, e), is)

whole_count : (n : ℕ) (t : ℕ → Bool) → count_below n t ≡ n → (b : ℕ) → b < n → t b ≡ true
whole_count zero t e b less = absurd (omega arith)
whole_count (suc n) t e b less =
    let back = counts_back n t (t n) refl e in
    elim (b == n) as (λ x. (b == n) ≡ x → t b ≡ true) [
      | true ↦ λ here. ap t (eqb-true b n here) ∙ back.1
      | false ↦ λ there. whole_count n t back.0 b (before b n less there)
    ] refl
  where
    before : (b n : ℕ) → b < suc n → (b == n) ≡ false → b < n
    before b n less there = grind (arith, nat_tests)

-- all are done where none waits
pub none_waits : (n waiting : ℕ) (t : ℕ → Bool) → waiting + count_below n t ≡ n → all_below n t ≡ (waiting == 0)
none_waits n waiting t e = elim (waiting == 0) as (λ x. (waiting == 0) ≡ x → all_below n t ≡ x) [
  | true ↦ λ z. let w = eqb-true waiting 0 z in all_pass n t (whole_count n t (omega (arith, e, w)))
  | false ↦ λ z. elim (all_below n t) as (λ y. all_below n t ≡ y → y ≡ false) [
    | false ↦ λ f. refl
    | true ↦ λ f. let c = count_whole n t (λ b less. passes_below n b t f less) in
        absurd (let w : waiting ≡ 0 = omega (arith, e, c) in let y : (waiting == 0) ≡ true = ap (λ (m : ℕ). m == 0) w in cc)
  ] refl
] refl

-- one block may be done that wasn't
pub count_more_done : (n : ℕ) (t u : ℕ → Bool) (b : ℕ) → b < n → t b ≡ false → ((c : ℕ) → c ≢ b → u c ≡ t c) → count_below n u ≡ count_below n t + (if u b then 1 else 0)
count_more_done n t u b less was same =
    count_is_sum n u
    ∙ sum_with n (λ c. if t c then 1 else 0) (λ c. if u c then 1 else 0) b (if u b then 1 else 0) less (let none : (if u b then 1 else 0)
    ≡ 0 + (if u b then 1 else 0) = omega arith in none ∙ ap (λ x. (if x then 1 else 0) + (if u b then 1 else 0)) (sym was))
    (λ c ne. ap (λ x. if x then 1 else 0) (same c ne))
    ∙ ap (λ (m : ℕ). m + (if u b then 1 else 0)) (sym (count_is_sum n t))

pub someone_waits : (n waiting : ℕ) (t : ℕ → Bool) (b : ℕ) → waiting + count_below n t ≡ n → b < n → t b ≡ false → 1 ≤ waiting
someone_waits n waiting t b e less was = elim (waiting == 0) as (λ x. (waiting == 0) ≡ x → 1 ≤ waiting) [
  | true ↦ λ z. absurd (let w = eqb-true waiting 0 z in let f = whole_count n t (omega (arith, e, w)) b less in cc)
  | false ↦ λ z. grind (arith, nat_tests)
] refl

-- the packet's block wasn't done, and is done where this is its k-th symbol; other blocks are as they were
pub wasnt_done : (o : ObjectHeld) (p : SymbolPacket) → Joins o p → is_block_done o p.sbn ≡ false
wasnt_done o p joins = let w = joins.wanting in not_at_most (size_at o.oti p.sbn) (symbols_in o p.sbn) w
  where
    not_at_most : (k held : ℕ) → held < k → nat_le k held ≡ false
    not_at_most k held less = grind (arith, nat_tests)

pub done_here : (o : ObjectHeld) (p : SymbolPacket) → p.esi < encoding_at o.oti p.sbn → Joins o p
    → is_block_done (with_packet o p) p.sbn ≡ (symbols_in o p.sbn + 1 == size_at o.oti p.sbn)
done_here o p less joins = ap (nat_le (size_at o.oti p.sbn)) (symbols_here o p less joins) ∙ last_one (size_at o.oti p.sbn) (symbols_in o p.sbn) joins.wanting
  where
    last_one : (k held : ℕ) → held < k → nat_le k (held + 1) ≡ (held + 1 == k)
    last_one k held less = grind (arith, nat_tests)

pub done_elsewhere : (o : ObjectHeld) (p : SymbolPacket) (b : ℕ) → b ≢ p.sbn → is_block_done (with_packet o p) b ≡ is_block_done o b
done_elsewhere o p b ne = ap (λ (h : BlockHeld). nat_le (size_at o.oti b) (count_below (encoding_at o.oti b) (has_row h))) (block_elsewhere o p b ne)

-- the count with one more symbol
pub waiting_with : (o : ObjectHeld) (p : SymbolPacket) (waiting left : ℕ)
    → waiting + count_below (blocks o.oti) (is_block_done o) ≡ blocks o.oti → p.sbn < blocks o.oti → Joins o p
    → left + (if is_block_done (with_packet o p) p.sbn then 1 else 0) ≡ waiting → left + count_below (blocks o.oti) (is_block_done (with_packet o p)) ≡ blocks o.oti
waiting_with o p waiting left e less joins taken =
    let more = count_more_done (blocks o.oti) (is_block_done o) (is_block_done (with_packet o p)) p.sbn less (wasnt_done o p joins) (λ b ne. done_elsewhere o p b ne) in
    omega (arith, e, taken, more)

-- the object is ready with the packet where one block waits, and it is this one
pub ready_with_packet : (o : ObjectHeld) (p : SymbolPacket) (waiting : ℕ)
    → waiting + count_below (blocks o.oti) (is_block_done o) ≡ blocks o.oti → p.sbn < blocks o.oti → Joins o p
    → is_done (with_packet o p) ≡ (if waiting == 1 then is_block_done (with_packet o p) p.sbn else false)
ready_with_packet o p waiting e less joins =
    let some = someone_waits (blocks o.oti) waiting (is_block_done o) p.sbn e less (wasnt_done o p joins) in
    by_this (is_block_done (with_packet o p) p.sbn) refl some
  where
    left_one : (d : Bool) (waiting : ℕ) → 1 ≤ waiting → ((waiting - (if d then 1 else 0)) == 0) ≡ (if waiting == 1 then d else false)
    left_one true waiting some = grind (arith, nat_tests)
    left_one false waiting some = grind (arith, nat_tests)

    taken : (d : Bool) (waiting : ℕ) → 1 ≤ waiting → (waiting - (if d then 1 else 0)) + (if d then 1 else 0) ≡ waiting
    taken true waiting some = omega arith
    taken false waiting some = omega arith

    by_this : (d : Bool) → is_block_done (with_packet o p) p.sbn ≡ d → 1 ≤ waiting
        → is_done (with_packet o p) ≡ (if waiting == 1 then is_block_done (with_packet o p) p.sbn else false)
    by_this d is some =
        none_waits (blocks o.oti) (waiting - (if d then 1 else 0)) (is_block_done (with_packet o p))
        (waiting_with o p waiting (waiting - (if d then 1 else 0)) e less
        joins (ap (λ x. (waiting - (if d then 1 else 0)) + (if x then 1 else 0)) is ∙ taken d waiting some))
        ∙ left_one d waiting some ∙ ap (λ x. if waiting == 1 then x else false) (sym is)

-- ---- the same of a packet

pub block_within : (o : ObjectHeld) (p : SymbolPacket) → IsPacket p → o.oti ≡ p.oti → p.sbn < blocks o.oti
block_within o p is same = subst (λ (u : ObjectInformation). p.sbn < blocks u) (sym same) is.block

pub place_within : (o : ObjectHeld) (p : SymbolPacket) → IsPacket p → o.oti ≡ p.oti → p.esi < encoding_at o.oti p.sbn
place_within o p is same = subst (λ (u : ObjectInformation). p.esi < encoding_at u p.sbn) (sym same) is.place

pub ready_where_one_waits : (o : ObjectHeld) (p : SymbolPacket) (waiting : ℕ)
    → waiting + count_below (blocks o.oti) (is_block_done o) ≡ blocks o.oti → IsPacket p → Joins o p → waiting ≡ 1
    → (symbols_in o p.sbn + 1 == size_at o.oti p.sbn) ≡ is_done (with_packet o p)
ready_where_one_waits o p waiting e is joins one =
    sym (ready_with_packet o p waiting e (block_within o p is joins.same) joins
    ∙ ap (λ (m : ℕ). if m == 1 then is_block_done (with_packet o p) p.sbn else false) one
    ∙ done_here o p (place_within o p is joins.same) joins)

pub not_ready_where_more_wait : (o : ObjectHeld) (p : SymbolPacket) (waiting : ℕ)
    → waiting + count_below (blocks o.oti) (is_block_done o) ≡ blocks o.oti → IsPacket p → Joins o p → (waiting ≡ 1 → ⊥)
    → false ≡ is_done (with_packet o p)
not_ready_where_more_wait o p waiting e is joins more =
    sym (ready_with_packet o p waiting e (block_within o p is joins.same) joins
    ∙ ap (λ x. if x then is_block_done (with_packet o p) p.sbn else false) (other waiting more))
  where
    other : (w : ℕ) → (w ≡ 1 → ⊥) → (w == 1) ≡ false
    other w more = grind (arith, nat_tests)
