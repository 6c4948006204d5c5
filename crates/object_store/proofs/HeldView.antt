-- A map of objects, seen as the held pair: each look-up there is one of the object's.
use Rattle.std.proofs.Common.{◌≡◌, ℕ, ◌≤◌, Bool, true, false, cond, ◌&&◌, List, [], ◌∷◌, ◌++◌, map, refl}
use Rattle.std.proofs.Common.{sym, ap, ◌∙◌, arith, Option, Some, None, eqb-true, option_map}
use Rattle.std.specs.Prelude.{T, is_some, ◌==◌, unwrap_or, option_and_then, nat_le}
use Rattle.std.specs.Option.{option_or}
use Rattle.std.specs.Ordering.{nat_cmp, eq_by_cmp}
use Rattle.std.specs.Cmp.{nat_cmp_total}
use Rattle.std.specs.FinMap.{FinMap, empty, get, insert, find, entries, entries_sorted, get-entries, get-from_entries, get-insert}
use Rattle.std.specs.FinMap.{get-empty, from_entries, len-entries, len-empty, same_map, nat_cmp-IsAntisymmetric}
use Rattle.std.specs.FinMap.Entries.{below_all, is_sorted}
use Rattle.std.proofs.lemmas.Bool.Decides.{nat_tests}
use Rattle.oti_blocks.specs.Partition.{ObjectInformation, encoding_at, blocks, size_at}
use Rattle.alc_packet.specs.Packet.{SymbolPacket, full}
use Rattle.wire_bytes.proofs.Public.{count_same, all_same}
use Rattle.held_packets.specs.Held.{Place, place, place_cmp, place_of, row_at, is_held, symbols_held, joined, nothing_held}
use Rattle.held_packets.specs.Ready.{is_block_ready, is_ready, sources_held}
use Rattle.object_store.specs.Inner.BlockHeld.{BlockHeld, has_row}
use Rattle.object_store.specs.Inner.ObjectHeld.{ObjectHeld, new_object, unopened, block_at, object_row, symbols_in, sources_at, is_block_done, is_done, with_packet}
use Rattle.object_store.specs.Inner.Objects.{flat, block_rows, object_rows, held_of, object_at}
use Rattle.held_packets.proofs.Public.{nothing_listed, place_total, place_exact, tied_numbers, tied_places, missing_above, both_hold, row_joined}
use Rattle.object_store.proofs.WithPacket.{row_here, block_elsewhere}

-- ---- look-ups in joined lists

find_either : (q : Place) (xs ys : List (Place × List ℕ)) → find place_cmp q (xs ++ ys) ≡ option_or (find place_cmp q xs) (find place_cmp q ys)
find_either q [] ys = refl
find_either q (x ∷ xs) ys = elim (eq_by_cmp place_cmp q x.0) as (λ b. cond b (Some x.1)
    (find place_cmp q (xs ++ ys)) ≡ option_or (cond b (Some x.1) (find place_cmp q xs)) (find place_cmp q ys)) [
      | true ↦ refl
      | false ↦ find_either q xs ys
    ]

or_none : (r : Option (List ℕ)) → option_or r None ≡ r
or_none None = refl
or_none (Some x) = refl

-- only the entry at the key has the place
find_flat : {V : Type 0} (rows : ℕ → V → List (Place × List ℕ)) (q : Place) (k : ℕ) → ((u : ℕ) (v : V) → (u == k) ≡ false → find place_cmp q (rows u v) ≡ None)
    → (es : List (ℕ × V)) → T (is_sorted nat_cmp es) → find place_cmp q (flat rows es) ≡ option_and_then (λ v. find place_cmp q (rows k v)) (find nat_cmp k es)
find_flat rows q k others [] sorted = refl
find_flat {V = V} rows q k others (e ∷ es) sorted =
    let parts = both_hold (below_all nat_cmp e.0 es) (is_sorted nat_cmp es) sorted in
    find_either q (rows e.0 e.1) (flat rows es)
    ∙ ap (option_or (find place_cmp q (rows e.0 e.1))) (find_flat rows q k others es parts.1)
    ∙ elim (e.0 == k) as (λ b. (e.0 == k) ≡ b → option_or (find place_cmp q (rows e.0 e.1)) (option_and_then (λ v. find place_cmp q (rows k v)) (find nat_cmp k es))
    ≡ option_and_then (λ v. find place_cmp q (rows k v)) (cond (eq_by_cmp nat_cmp k e.0) (Some e.1) (find nat_cmp k es))) [
      | true ↦ λ same.
          let at = eqb-true e.0 k same in
          let le : k ≤ e.0 = omega (arith, at) in
          let gone : find nat_cmp k es ≡ None = missing_above k e.0 es le parts.0 in
          rw (tied_numbers k e.0 ∙ same, gone) (or_none (find place_cmp q (rows e.0 e.1)) ∙ ap (λ (u : ℕ). find place_cmp q (rows u e.1)) at)
      | false ↦ λ other. rw (tied_numbers k e.0 ∙ other, others e.0 e.1 other) refl
    ] refl

-- a row of a block, by its place
find_block : (t b j : ℕ) (es : List (ℕ × List ℕ)) → find place_cmp (place t b j) (map (λ e. (place t b e.0, e.1)) es) ≡ find nat_cmp j es
find_block t b j [] = refl
find_block t b j (e ∷ es) =
    ap (λ x. cond x (Some e.1) (find place_cmp (place t b j) (map (λ e. (place t b e.0, e.1)) es)))
    (tied_places t b j t b e.0 ∙ within t b e.0 j ∙ sym (tied_numbers j e.0))
    ∙ ap (cond (eq_by_cmp nat_cmp j e.0) (Some e.1)) (find_block t b j es)
  where
    within : (t b u j : ℕ) → ((t == t) && ((b == b) && (u == j))) ≡ (u == j)
    within t b u j = grind (arith, nat_tests)

find_elsewhere : (t b j u c : ℕ) (es : List (ℕ × List ℕ)) → ((u == t) && (c == b)) ≡ false → find place_cmp (place t b j) (map (λ e. (place u c e.0, e.1)) es) ≡ None
find_elsewhere t b j u c [] apart = refl
find_elsewhere t b j u c (e ∷ es) apart =
    ap (λ x. cond x (Some e.1) (find place_cmp (place t b j) (map (λ e. (place u c e.0, e.1)) es)))
    (tied_places t b j u c e.0 ∙ not_there (u == t) (c == b) (e.0 == j) apart)
    ∙ find_elsewhere t b j u c es apart
  where
    not_there : (x y z : Bool) → (x && y) ≡ false → (x && (y && z)) ≡ false
    not_there false y z e = refl
    not_there true false z e = refl
    not_there true true z e = cc

other_object : (x y : Bool) → x ≡ false → (x && y) ≡ false
other_object false y e = refl
other_object true y e = cc

other_block : (x y : Bool) → y ≡ false → (x && y) ≡ false
other_block false y e = refl
other_block true y e = e

flat_elsewhere : (t b j u : ℕ) (es : List (ℕ × BlockHeld)) → (u == t) ≡ false → find place_cmp (place t b j) (flat (block_rows u) es) ≡ None
flat_elsewhere t b j u [] apart = refl
flat_elsewhere t b j u (e ∷ es) apart =
    find_either (place t b j) (block_rows u e.0 e.1) (flat (block_rows u) es)
    ∙ ap (λ r. option_or r (find place_cmp (place t b j) (flat (block_rows u) es)))
    (find_elsewhere t b j u e.0 (entries e.1.rows) (other_object (u == t) (e.0 == b) apart))
    ∙ flat_elsewhere t b j u es apart

-- ---- the three look-ups

row_of_object : (t b j : ℕ) (o : ObjectHeld) → find place_cmp (place t b j) (object_rows t o) ≡ object_row o b j
row_of_object t b j o =
    find_flat (block_rows t) (place t b j) b (λ c h apart. find_elsewhere t b j t c (entries h.rows)
    (other_block (t == t) (c == b) apart)) (entries o.parts) (entries_sorted o.parts)
    ∙ ap (option_and_then (λ h. find place_cmp (place t b j) (block_rows t b h))) (sym (get-entries o.parts b))
    ∙ in_block (get o.parts b)
  where
    in_block : (r : Option BlockHeld) → option_and_then (λ h. find place_cmp (place t b j) (block_rows t b h)) r ≡ get (unwrap_or r (unopened o.oti b)).rows j
    in_block None = sym (get-empty nat_cmp j)
    in_block (Some h) = find_block t b j (entries h.rows) ∙ sym (get-entries h.rows j)

pub get_row : (m : FinMap nat_cmp ObjectHeld) (t b j : ℕ) (d : ObjectInformation) → row_at (held_of m) (place t b j) ≡ object_row (unwrap_or (get m t) (new_object d)) b j
unfolding held_of
get_row m t b j d =
    get-from_entries place_total (flat object_rows (entries m)) (place t b j)
    ∙ find_flat object_rows (place t b j) t (λ u o apart. flat_elsewhere t b j u (entries o.parts) apart) (entries m) (entries_sorted m)
    ∙ ap (option_and_then (λ o. find place_cmp (place t b j) (object_rows t o))) (sym (get-entries m t))
    ∙ in_object (get m t)
  where
    in_object : (r : Option ObjectHeld) → option_and_then (λ o. find place_cmp (place t b j) (object_rows t o)) r ≡ object_row (unwrap_or r (new_object d)) b j
    in_object None = sym (ap (λ (r : Option BlockHeld). get (unwrap_or r (unopened d b)).rows j) (get-empty nat_cmp b) ∙ get-empty nat_cmp j)
    in_object (Some o) = row_of_object t b j o

find_information : (t : ℕ) (es : List (ℕ × ObjectHeld)) → find nat_cmp t (map (λ e. (e.0, e.1.oti)) es) ≡ option_map (λ o. o.oti) (find nat_cmp t es)
find_information t [] = refl
find_information t (e ∷ es) = elim (eq_by_cmp nat_cmp t e.0) as (λ b. cond b (Some e.1.oti)
    (find nat_cmp t (map (λ e. (e.0, e.1.oti)) es)) ≡ option_map (λ o. o.oti) (cond b (Some e.1) (find nat_cmp t es))) [
      | true ↦ refl
      | false ↦ find_information t es
    ]

pub get_information : (m : FinMap nat_cmp ObjectHeld) (t : ℕ) → get (held_of m).objects t ≡ option_map (λ o. o.oti) (get m t)
unfolding held_of
get_information m t =
    get-from_entries nat_cmp_total (map (λ e. (e.0, e.1.oti)) (entries m)) t ∙ find_information t (entries m) ∙ ap (option_map (λ o. o.oti)) (sym (get-entries m t))

-- ---- counts of an object that is there, or new

module _ (m : FinMap nat_cmp ObjectHeld) (t : ℕ) (d : ObjectInformation) (o : ObjectHeld) (here : unwrap_or (get m t) (new_object d) ≡ o) where
  pub held_here : (b j : ℕ) → row_at (held_of m) (place t b j) ≡ object_row o b j
  held_here b j = get_row m t b j d ∙ ap (λ (u : ObjectHeld). object_row u b j) here

  pub symbols_are : (b : ℕ) → symbols_held (held_of m) t o.oti b ≡ symbols_in o b
  symbols_are b = count_same (encoding_at o.oti b) (λ j. is_held (held_of m) (place t b j)) (has_row (block_at o b)) (λ j less. ap is_some (held_here b j))

  pub sources_are : (b : ℕ) → sources_held (held_of m) t o.oti b ≡ sources_at o b
  sources_are b = count_same (size_at o.oti b) (λ j. is_held (held_of m) (place t b j)) (has_row (block_at o b)) (λ j less. ap is_some (held_here b j))

  pub blocks_are : (b : ℕ) → is_block_ready (held_of m) t o.oti b ≡ is_block_done o b
  blocks_are b = ap (nat_le (size_at o.oti b)) (symbols_are b)

  pub ready_is_done : is_ready (held_of m) t o.oti ≡ is_done o
  ready_is_done = all_same (blocks o.oti) (is_block_ready (held_of m) t o.oti) (is_block_done o) (λ b less. blocks_are b)

-- ---- with one more packet

-- the objects with the packet's
pub held_joined : (m : FinMap nat_cmp ObjectHeld) (p : SymbolPacket) → (object_at m p).oti ≡ p.oti
    → held_of (insert m p.toi (with_packet (object_at m p) p)) ≡ joined (held_of m) p
held_joined m p same = λ i. record { objects = objects_are i; rows = rows_are i }
  where
    more : FinMap nat_cmp ObjectHeld
    more = insert m p.toi (with_packet (object_at m p) p)

    open_one : (x : Bool) (r : Option ObjectHeld) → option_map (λ (o : ObjectHeld). o.oti)
        (cond x (Some (with_packet (object_at m p) p)) r) ≡ cond x (Some p.oti) (option_map (λ (o : ObjectHeld). o.oti) r)
    open_one true r = ap (λ (u : ObjectInformation). Some u) same
    open_one false r = refl

    objects_are : (held_of more).objects ≡ insert (held_of m).objects p.toi p.oti
    objects_are = same_map nat_cmp_total nat_cmp-IsAntisymmetric (held_of more).objects (insert (held_of m).objects p.toi p.oti) (λ t.
        get_information more t
        ∙ ap (option_map (λ (o : ObjectHeld). o.oti)) (get-insert nat_cmp_total m p.toi (with_packet (object_at m p) p) t)
        ∙ open_one (eq_by_cmp nat_cmp t p.toi) (get m t)
        ∙ ap (cond (eq_by_cmp nat_cmp t p.toi) (Some p.oti)) (sym (get_information m t))
        ∙ sym (get-insert nat_cmp_total (held_of m).objects p.toi p.oti t))

    in_its_object : (b j : ℕ) (x : Bool) → (p.sbn == b) ≡ x
        → object_row (with_packet (object_at m p) p) b j ≡ cond (x && (p.esi == j)) (Some (full p)) (object_row (object_at m p) b j)
    in_its_object b j true here = ap (λ (c : ℕ). object_row (with_packet (object_at m p) p) c j) (sym (eqb-true p.sbn b here)) ∙ row_here (object_at m p) p j
        ∙ ap (λ (c : ℕ). cond (p.esi == j) (Some (full p)) (object_row (object_at m p) c j)) (eqb-true p.sbn b here)
    in_its_object b j false there = ap (λ (h : BlockHeld). get h.rows j)
        (block_elsewhere (object_at m p) p b (λ e. let t : (p.sbn == b) ≡ true = grind (arith, nat_tests) in cc))

    row_is : (t b j : ℕ) (x : Bool) → (p.toi == t) ≡ x → object_row (unwrap_or (cond x (Some (with_packet (object_at m p) p)) (get m t)) (new_object p.oti)) b j
        ≡ cond (x && ((p.sbn == b) && (p.esi == j))) (Some (full p)) (object_row (unwrap_or (get m t) (new_object p.oti)) b j)
    row_is t b j true here = in_its_object b j (p.sbn == b) refl
        ∙ ap (λ (u : ℕ). cond ((p.sbn == b) && (p.esi == j)) (Some (full p)) (object_row (unwrap_or (get m u) (new_object p.oti)) b j)) (eqb-true p.toi t here)
    row_is t b j false there = refl

    rows_are : (held_of more).rows ≡ insert (held_of m).rows (place_of p) (full p)
    rows_are = same_map place_total place_exact (held_of more).rows (insert (held_of m).rows (place_of p) (full p)) (λ q.
        get_row more q.toi q.sbn q.esi p.oti
        ∙ ap (λ (r : Option ObjectHeld). object_row (unwrap_or r (new_object p.oti)) q.sbn q.esi)
        (get-insert nat_cmp_total m p.toi (with_packet (object_at m p) p) q.toi
        ∙ ap (λ x. cond x (Some (with_packet (object_at m p) p)) (get m q.toi)) (tied_numbers q.toi p.toi))
        ∙ row_is q.toi q.sbn q.esi (p.toi == q.toi) refl
        ∙ ap (cond ((p.toi == q.toi) && ((p.sbn == q.sbn) && (p.esi == q.esi))) (Some (full p))) (sym (get_row m q.toi q.sbn q.esi p.oti))
        ∙ sym (row_joined (held_of m) p q.toi q.sbn q.esi))

-- the packet's object then
pub object_then : (m : FinMap nat_cmp ObjectHeld) (p : SymbolPacket) (o : ObjectHeld)
    (d : ObjectInformation) → unwrap_or (get (insert m p.toi o) p.toi) (new_object d) ≡ o
object_then m p o d =
    ap (λ (r : Option ObjectHeld). unwrap_or r (new_object d)) (get-insert nat_cmp_total m p.toi o p.toi
    ∙ ap (λ x. cond x (Some o) (get m p.toi)) (tied_numbers p.toi p.toi ∙ itself p.toi))
  where
    itself : (t : ℕ) → (t == t) ≡ true
    itself t = grind (arith, nat_tests)

-- nothing is held of no objects
pub held_of_none : held_of empty ≡ nothing_held
unfolding held_of
held_of_none = ap (λ (es : List (ℕ × ObjectHeld)). record { objects = from_entries (map (λ e. (e.0, e.1.oti)) es); rows = from_entries (flat object_rows es) })
    (nothing_listed (entries empty) (sym (len-entries empty) ∙ len-empty nat_cmp ObjectHeld))
