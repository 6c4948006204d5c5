-- An object in memory with one more symbol.
use Rattle.std.proofs.Common.{◌≡◌, ◌≢◌, ◌<◌, ◌≤◌, ◌+◌, ◌-◌, ◌*◌, ℕ, Bool, true, false, cond, List, [], length, refl, sym, ap, subst, ◌∙◌, arith, Some, eqb-true}
use Rattle.std.specs.Prelude.{if◌then◌else◌, unwrap_or, nat_le, is_some, ◌==◌}
use Rattle.std.specs.Ordering.{nat_cmp}
use Rattle.std.specs.Cmp.{nat_cmp_total}
use Rattle.std.specs.FinMap.{get, insert, get-insert}
use Rattle.std.specs.BTreeMap.{BTreeMap, Updates}
use Rattle.std.specs.BTreeMap as tree
use Rattle.std.proofs.lemmas.Bool.Decides.{nat_tests}
use Rattle.oti_blocks.specs.Partition.{ObjectInformation, sources, blocks, size_at, encoding_at, symbol_of}
use Rattle.alc_packet.specs.Packet.{SymbolPacket, IsPacket, full}
use Rattle.wire_bytes.specs.Below.{count_below}
use Rattle.wire_bytes.specs.Bytes.{zero_filled}
use Rattle.wire_bytes.proofs.Public.{not_all_below}
use Rattle.object_store.specs.Inner.BlockHeld.{BlockHeld, has_row, is_full, held_in, sources_in, with_row, with_symbol, solving_steps}
use Rattle.object_store.specs.Inner.ObjectHeld.{ObjectHeld, unopened, block_at, symbols_in, is_block_done, is_done, with_packet, steps_at, Joins, AreRowsBelow}
use Rattle.object_store.specs.Inner.ObjectParts.{map_of, object_of, joined_parts, ready_object, parts_seen, object_seen, part_at, part_with, MayJoin}
use Rattle.object_store.specs.Inner.ObjectParts.{AreShaped, AreWithin, IsObject}
use Rattle.held_packets.proofs.Public.{tied_numbers}
use Rattle.object_store.proofs.WithPacket.{map_updated, map_same, block_in_tree, held_is_symbols, may_join, block_here, block_elsewhere, symbols_here, filled_is_full}
use Rattle.object_store.proofs.WithPacket.{shaped_with, waiting_with, none_waits, wasnt_done, someone_waits, block_within, place_within}
use Rattle.object_store.proofs.JoinedBlocks.{seen_open, seen_ready}

-- the packet's block in the tree
part_is : (oti : ObjectInformation) (parts : BTreeMap ℕ BlockHeld) (p : SymbolPacket) → oti ≡ p.oti → part_at parts p ≡ block_at (object_of oti parts) p.sbn
part_is oti parts p same = ap (λ (u : ObjectInformation). unwrap_or (tree.get nat_cmp parts p.sbn) (unopened u p.sbn)) (sym same) ∙ sym (block_in_tree oti parts p.sbn)

pub part_has_room : (oti : ObjectInformation) (parts : BTreeMap ℕ BlockHeld) (p : SymbolPacket) → IsPacket p
    → Joins (object_of oti parts) p → AreShaped (object_of oti parts) → MayJoin (part_at parts p) p
part_has_room oti parts p is joins shaped = subst (λ (h : BlockHeld). MayJoin h p)
    (sym (part_is oti parts p joins.same)) (may_join (object_of oti parts) p is joins (shaped p.sbn))

-- what the tree says of the object with the packet
pub record IsStep (oti : ObjectInformation) (parts more : BTreeMap ℕ BlockHeld) (p : SymbolPacket) : Type 0 where
  pub new : object_of oti more ≡ with_packet (object_of oti parts) p
  pub full : is_full (part_with parts p) ≡ is_block_done (with_packet (object_of oti parts) p) p.sbn
  pub steps : solving_steps (part_with parts p) ≡ steps_at (with_packet (object_of oti parts) p) p.sbn

pub step_of : (oti : ObjectInformation) (parts more : BTreeMap ℕ BlockHeld) (p : SymbolPacket) → Joins (object_of oti parts) p
    → AreShaped (object_of oti parts) → Updates nat_cmp parts more p.sbn (Some (part_with parts p))
    → IsStep oti parts more p
step_of oti parts more p joins shaped updates =
    let o = object_of oti parts in
    let size : zero_filled (block_at o p.sbn).size p.symbol ≡ full p = ap (λ (e : ℕ). zero_filled e p.symbol)
    ((shaped p.sbn).size ∙ ap (λ (u : ObjectInformation). symbol_of u) joins.same) ∙ filled_is_full p in
    let with_is : part_with parts p ≡ with_row (block_at o p.sbn) p.esi (full p) =
    ap (λ (h : BlockHeld). with_symbol h p.esi p.symbol) (part_is oti parts p joins.same) ∙ ap (with_row (block_at o p.sbn) p.esi) size in
    let here : part_with parts p ≡ block_at (with_packet o p) p.sbn = with_is ∙ sym (block_here o p) in
    let fits = shaped_with o p shaped p.sbn in
    let full_is : is_full (block_at (with_packet o p) p.sbn) ≡ is_block_done (with_packet o p) p.sbn =
    ap (λ (k : ℕ). nat_le k (held_in (block_at (with_packet o p) p.sbn))) fits.k
    ∙ ap (nat_le (size_at oti p.sbn)) (held_is_symbols (with_packet o p) p.sbn fits) in record {
      new = (λ i. record { oti = oti; parts = map_updated parts more p.sbn (part_with parts p) updates i })
          ∙ ap (λ (h : BlockHeld). record { oti = oti; parts = insert (map_of parts) p.sbn h }) with_is;
      full = ap is_full here ∙ full_is;
      steps = ap solving_steps here
          ∙ ap (λ x. if x then ((block_at (with_packet o p) p.sbn).k - sources_in (block_at (with_packet o p) p.sbn))
          * (block_at (with_packet o p) p.sbn).k else 0) full_is
          ∙ ap (λ (k : ℕ). if is_block_done (with_packet o p) p.sbn then (k - count_below k (has_row (block_at (with_packet o p) p.sbn))) * k else 0) fits.k;
    }

-- the object wasn't ready
wasnt_ready : (o : ObjectHeld) (p : SymbolPacket) → IsPacket p → Joins o p → is_done o ≡ false
wasnt_ready o p is joins = not_all_below (blocks o.oti) p.sbn (is_block_done o) (block_within o p is joins.same) (wasnt_done o p joins)

waits_still : (o : ObjectHeld) (p : SymbolPacket) (waiting : ℕ) (places bytes : List ℕ) (tree : BTreeMap ℕ BlockHeld)
    → IsObject o waiting places bytes tree → IsPacket p → Joins o p → 1 ≤ waiting
waits_still o p waiting places bytes tree holds is joins = someone_waits (blocks o.oti)
    waiting (is_block_done o) p.sbn holds.counted (block_within o p is joins.same) (wasnt_done o p joins)

-- while a block waits the object is seen as its tree
pub seen_as_tree : (u : ObjectHeld) (oti : ObjectInformation) (parts : BTreeMap ℕ BlockHeld) (waiting : ℕ) (places bytes : List ℕ)
    → object_seen oti parts waiting places bytes ≡ u → IsObject (object_seen oti parts waiting places bytes) waiting places bytes parts → waiting ≢ 0
    → (object_of oti parts ≡ u) × IsObject (object_of oti parts) waiting places bytes parts
seen_as_tree u oti parts waiting places bytes view holds some =
    let is = seen_open oti parts waiting places bytes some in (sym is ∙ view, subst (λ (o : ObjectHeld). IsObject o waiting places bytes parts) is holds)

-- and when none does as its joined blocks
pub seen_as_joined : (u : ObjectHeld) (oti : ObjectInformation) (parts : BTreeMap ℕ BlockHeld) (waiting : ℕ) (places bytes : List ℕ)
    → object_seen oti parts waiting places bytes ≡ u → IsObject (object_seen oti parts waiting places bytes) waiting places bytes parts → waiting ≡ 0
    → (ready_object oti places bytes ≡ u) × (is_done (ready_object oti places bytes) ≡ true) × IsObject (ready_object oti places bytes) waiting places bytes parts
seen_as_joined u oti parts waiting places bytes view holds none =
    let is = seen_ready oti parts waiting places bytes none in
    let now = subst (λ (o : ObjectHeld). IsObject o waiting places bytes parts) is holds in
    (sym is ∙ view, none_waits (blocks oti) waiting (is_block_done (ready_object oti places bytes)) now.counted ∙ ap (λ (n : ℕ). n == 0) none, now)

-- an object that a packet may join: it is seen as its tree, and nothing is joined
pub record IsOpen (u : ObjectHeld) (oti : ObjectInformation) (parts : BTreeMap ℕ BlockHeld) (waiting : ℕ) (places bytes : List ℕ) (p : SymbolPacket) : Type 0 where
  pub view : object_of oti parts ≡ u
  pub holds : IsObject (object_of oti parts) waiting places bytes parts
  pub joins : Joins (object_of oti parts) p
  pub waits : 1 ≤ waiting
  pub none_placed : places ≡ []
  pub none_joined : bytes ≡ []

pub open_to : (u : ObjectHeld) (oti : ObjectInformation) (parts : BTreeMap ℕ BlockHeld) (waiting : ℕ) (places bytes : List ℕ) (p : SymbolPacket)
    → object_seen oti parts waiting places bytes ≡ u → IsObject (object_seen oti parts waiting places bytes) waiting places bytes parts → IsPacket p → Joins u p
    → IsOpen u oti parts waiting places bytes p
open_to u oti parts waiting places bytes p view holds is joins =
    let o = object_seen oti parts waiting places bytes in
    let may : Joins o p = subst (λ (v : ObjectHeld). Joins v p) (sym view) joins in
    let some = waits_still o p waiting places bytes parts holds is may in
    let tree = seen_as_tree u oti parts waiting places bytes view holds (λ none. absurd (omega (arith, none, some))) in
    let not_done = wasnt_ready o p is may in record {
      view = tree.0;
      holds = tree.1;
      joins = subst (λ (v : ObjectHeld). Joins v p) (sym tree.0) joins;
      waits = some;
      none_placed = holds.none_placed not_done;
      none_joined = holds.none_joined not_done;
    }

-- the open blocks with the packet's are the object's
pub within_with : (o : ObjectHeld) (p : SymbolPacket) → p.sbn < blocks o.oti → AreWithin o → AreWithin (with_packet o p)
within_with o p less within b some =
    either (p.sbn == b) refl (sym (ap is_some (get-insert nat_cmp_total o.parts p.sbn (with_row (block_at o p.sbn) p.esi (full p)) b
    ∙ ap (λ x. cond x (Some (with_row (block_at o p.sbn) p.esi (full p))) (get o.parts b)) (tied_numbers b p.sbn))) ∙ some)
  where
    either : (x : Bool) → (p.sbn == b) ≡ x → is_some (cond x (Some (with_row (block_at o p.sbn) p.esi (full p))) (get o.parts b)) ≡ true → b < blocks o.oti
    either true same opened = subst (λ (c : ℕ). c < blocks o.oti) (eqb-true p.sbn b same) less
    either false other opened = within b opened

-- no block has more symbols than it has source symbols
most_with : (o : ObjectHeld) (p : SymbolPacket) → IsPacket p → Joins o p → ((b : ℕ) → symbols_in o b ≤ size_at o.oti b)
    → (b : ℕ) → symbols_in (with_packet o p) b ≤ size_at o.oti b
most_with o p is joins most b = elim (p.sbn == b) as (λ x. (p.sbn == b) ≡ x → symbols_in (with_packet o p) b ≤ size_at o.oti b) [
  | true ↦ λ e. subst (λ (c : ℕ). symbols_in (with_packet o p) c ≤ size_at o.oti c) (eqb-true p.sbn b e)
      (omega (arith, symbols_here o p (place_within o p is joins.same) joins, joins.wanting))
  | false ↦ λ e. subst (λ (h : BlockHeld). count_below (encoding_at o.oti b) (has_row h) ≤ size_at o.oti b) (sym (block_elsewhere o p b (differs p.sbn b e))) (most b)
] refl
  where
    differs : (n m : ℕ) → (n == m) ≡ false → m ≢ n
    differs n m e same = grind (arith, nat_tests)

-- what holds of it then
pub holds_with : (o : ObjectHeld) (p : SymbolPacket) (waiting left : ℕ) (places bytes placed joined : List ℕ) (block object : Bool) (tree new : BTreeMap ℕ BlockHeld)
    → IsObject o waiting places bytes tree → IsPacket p → Joins o p
    → block ≡ is_block_done (with_packet o p) p.sbn → left + (if block then 1 else 0) ≡ waiting → object ≡ is_done (with_packet o p)
    → (object ≡ false → placed ≡ places) → (object ≡ false → joined ≡ bytes) → (object ≡ true → length placed ≡ sources o.oti)
    → (object ≡ true → AreRowsBelow (with_packet o p) (blocks o.oti) joined) → (object ≡ true → new.entries ≡ [])
    → IsObject (with_packet o p) left placed joined new
holds_with o p waiting left places bytes placed joined block object tree new holds is joins block_is taken object_is same_places same_bytes many rows released = record {
  sound = holds.sound;
  shaped = shaped_with o p holds.shaped;
  within = within_with o p (block_within o p is joins.same) holds.within;
  most = most_with o p is joins holds.most;
  counted = waiting_with o p waiting left holds.counted (block_within o p is joins.same) joins (ap (λ x. left + (if x then 1 else 0)) (sym block_is) ∙ taken);
  none_placed = λ f. same_places (object_is ∙ f) ∙ holds.none_placed (wasnt_ready o p is joins);
  none_joined = λ f. same_bytes (object_is ∙ f) ∙ holds.none_joined (wasnt_ready o p is joins);
  placed = λ t. many (object_is ∙ t);
  joined = λ t. rows (object_is ∙ t);
  released = λ t. released (object_is ∙ t);
}

-- and what is seen of it
pub seen_with : (o : ObjectHeld) (oti : ObjectInformation) (tree new : BTreeMap ℕ BlockHeld) (left : ℕ) (placed joined : List ℕ) (object : Bool)
    → left + count_below (blocks o.oti) (is_block_done o) ≡ blocks o.oti → object ≡ is_done o → object_of oti tree ≡ o
    → (object ≡ false → new.entries ≡ tree.entries) → (object ≡ true → ready_object oti placed joined ≡ object_of oti tree)
    → object_seen oti new left placed joined ≡ o
seen_with o oti tree new left placed joined object counted object_is tree_is same ready = by_state object refl
  where
    waits_none : (n : ℕ) → (n == 0) ≡ true → n ≡ 0
    waits_none n e = eqb-true n 0 e

    waits_some : (n : ℕ) → (n == 0) ≡ false → n ≢ 0
    waits_some n e none = grind (arith, nat_tests)

    by_state : (x : Bool) → object ≡ x → object_seen oti new left placed joined ≡ o
    by_state true e =
        let none = waits_none left (sym (none_waits (blocks o.oti) left (is_block_done o) counted) ∙ sym object_is ∙ e) in
        seen_ready oti new left placed joined none ∙ ready e ∙ tree_is
    by_state false e =
        let some = waits_some left (sym (none_waits (blocks o.oti) left (is_block_done o) counted) ∙ sym object_is ∙ e) in
        seen_open oti new left placed joined some ∙ (λ i. record { oti = oti; parts = map_same tree new (same e) i }) ∙ tree_is

-- nothing has changed
pub seen_same : (oti : ObjectInformation) (tree new : BTreeMap ℕ BlockHeld) (waiting : ℕ) (places bytes placed joined : List ℕ) → new.entries ≡ tree.entries
    → placed ≡ places → joined ≡ bytes → object_seen oti new waiting placed joined ≡ object_seen oti tree waiting places bytes
unfolding parts_seen
seen_same oti tree new waiting places bytes placed joined same same_places same_bytes =
    λ i. record { oti = oti; parts = if waiting == 0 then joined_parts oti (same_places i) (same_bytes i) else map_same tree new same i }

pub holds_same : (oti : ObjectInformation) (tree new : BTreeMap ℕ BlockHeld) (waiting : ℕ) (places bytes placed joined : List ℕ) → new.entries ≡ tree.entries
    → placed ≡ places → joined ≡ bytes → IsObject (object_seen oti tree waiting places bytes) waiting places bytes tree
    → IsObject (object_seen oti new waiting placed joined) waiting placed joined new
holds_same oti tree new waiting places bytes placed joined same same_places same_bytes holds =
    let seen = seen_same oti tree new waiting places bytes placed joined same same_places same_bytes in
    let again : IsObject (object_seen oti tree waiting places bytes) waiting places bytes new = record {
      sound = holds.sound;
      shaped = holds.shaped;
      within = holds.within;
      most = holds.most;
      counted = holds.counted;
      none_placed = holds.none_placed;
      none_joined = holds.none_joined;
      placed = holds.placed;
      joined = holds.joined;
      released = λ done. same ∙ holds.released done;
    } in
    subst (λ (o : ObjectHeld). IsObject o waiting placed joined new) (sym seen)
    (subst (λ (xs : List ℕ). IsObject (object_seen oti tree waiting places bytes) waiting xs joined new) (sym same_places)
    (subst (λ (xs : List ℕ). IsObject (object_seen oti tree waiting places bytes) waiting places xs new) (sym same_bytes) again))
