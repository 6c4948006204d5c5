-- The list of ready objects, once a packet has joined.
use Rattle.std.proofs.Common.{◌≡◌, ℕ, ◌<◌, Bool, true, false, cond, ◌||◌, not, List, [], ◌∷◌, ◌++◌, take, refl, sym, ap}
use Rattle.std.proofs.Common.{subst, ◌∙◌, arith, Option, Some, None, eqb-true}
use Rattle.std.specs.Prelude.{is_some, ◌==◌, nat_le, if◌then◌else◌}
use Rattle.std.specs.FinMap.{get}
use Rattle.std.proofs.lemmas.Bool.{and_parts}
use Rattle.std.proofs.lemmas.Bool.Decides.{nat_tests}
use Rattle.oti_blocks.specs.Partition.{ObjectInformation, blocks, size_at, length_of}
use Rattle.alc_packet.specs.Packet.{SymbolPacket, IsPacket}
use Rattle.wire_bytes.specs.Below.{join_below}
use Rattle.wire_bytes.proofs.Public.{all_same, not_all_below}
use Rattle.held_packets.specs.Held.{Held, nothing_held, symbols_held, joined}
use Rattle.held_packets.specs.HeldPair.{IsHeldPair}
use Rattle.held_packets.specs.Ready.{is_ready, is_block_ready}
use Rattle.held_packets.specs.Whole.{whole, bytes_when_ready, block_bytes}
use Rattle.object_store.specs.Store.{IsListed, is_in, are_different}
use Rattle.held_packets.proofs.Public.{nothing_whole, IsFresh, symbols_elsewhere, IsNew, object_joined, fresh_of_new}

-- whether the object is held and ready
abbrev pub is_whole : Held → ℕ → Option ObjectInformation → Bool
is_whole held t None = false
is_whole held t (Some o) = is_ready held t o

whole_there : (held : Held) (t : ℕ) (r : Option ObjectInformation) → is_some (bytes_when_ready held t r) ≡ is_whole held t r
whole_there held t None = refl
whole_there held t (Some o) = either (is_ready held t o) (take (length_of o) (join_below (blocks o) (λ b. block_bytes held t o b)))
  where
    either : (x : Bool) (bytes : List ℕ) → is_some (if x then Some bytes else None) ≡ x
    either true bytes = refl
    either false bytes = refl

pub whole_is_some : (held : Held) (t : ℕ) → is_some (whole held t) ≡ is_whole held t (get held.objects t)
unfolding whole
whole_is_some held t = whole_there held t (get held.objects t)

-- another object is ready where it was
ready_elsewhere : (held : Held) (p : SymbolPacket) (t : ℕ) (r : Option ObjectInformation) → (p.toi == t) ≡ false → is_whole (joined held p) t r ≡ is_whole held t r
ready_elsewhere held p t None apart = refl
ready_elsewhere held p t (Some o) apart = all_same (blocks o) (is_block_ready (joined held p) t o) (is_block_ready held t o)
    (λ b less. ap (nat_le (size_at o b)) (symbols_elsewhere held p t b o (λ u c. let g : (p.toi == t) ≡ true = grind (arith, nat_tests) in cc)))

-- the packet's object wasn't
not_ready_before : (held : Held) (p : SymbolPacket) (r : Option ObjectInformation) → get held.objects p.toi ≡ r
    → IsPacket p → IsFresh held p → symbols_held held p.toi p.oti p.sbn < size_at p.oti p.sbn
    → is_whole held p.toi r ≡ false
not_ready_before held p None closed is fresh wanting = refl
not_ready_before held p (Some o) open_o is fresh wanting =
    ap (is_ready held p.toi) (fresh.agrees o open_o) ∙ not_all_below (blocks p.oti) p.sbn (is_block_ready held p.toi p.oti)
    is.block (fewer (size_at p.oti p.sbn) (symbols_held held p.toi p.oti p.sbn) wanting)
  where
    fewer : (k n : ℕ) → n < k → nat_le k n ≡ false
    fewer k n less = grind (arith, nat_tests)

-- a list with one more
in_longer : (t u : ℕ) (ts : List ℕ) → is_in t (ts ++ u ∷ []) ≡ (is_in t ts || (u == t))
in_longer t u [] = either (u == t)
  where
    either : (x : Bool) → (x || false) ≡ x
    either true = refl
    either false = refl
in_longer t u (v ∷ ts) = elim (v == t) as (λ x. (x || is_in t (ts ++ u ∷ [])) ≡ ((x || is_in t ts) || (u == t))) [ true ↦ refl | false ↦ in_longer t u ts ]

different_longer : (u : ℕ) (ts : List ℕ) → is_in u ts ≡ false → are_different ts ≡ true → are_different (ts ++ u ∷ []) ≡ true
different_longer u [] absent different = refl
different_longer u (v ∷ ts) absent different =
    let apart = neither (v == u) (is_in u ts) absent in
    let before = and_parts (not (is_in v ts)) (are_different ts) different in
    let new : is_in v (ts ++ u ∷ []) ≡ false = in_longer v u ts ∙ ap (λ x. x || (u == v)) (turned (is_in v ts) before.0) ∙ other_way u v apart.0 in
    rw new (different_longer u ts apart.1 before.1)
  where
    neither : (x y : Bool) → (x || y) ≡ false → (x ≡ false) × (y ≡ false)
    neither true y e = cc
    neither false y e = (refl, e)

    turned : (x : Bool) → not x ≡ true → x ≡ false
    turned true e = cc
    turned false e = refl

    other_way : (u v : ℕ) → (v == u) ≡ false → (u == v) ≡ false
    other_way u v e = grind (arith, nat_tests)

-- the list of ready objects, with the packet's at its end where it is ready now
pub listed_joined : (budget : ℕ) (held : Held) (p : SymbolPacket) (ready : List ℕ) → IsHeldPair held → IsPacket p → IsNew budget held p → IsListed held ready
    → IsListed (joined held p) (if is_ready (joined held p) p.toi p.oti then ready ++ p.toi ∷ [] else ready)
listed_joined budget held p ready pair is new listed = record { listed = λ t. by_object t (p.toi == t) refl; different = by_ready (is_ready (joined held p) p.toi p.oti) }
  where
    fresh : IsFresh held p
    fresh = fresh_of_new budget held p pair is new

    absent : is_in p.toi ready ≡ false
    absent = sym (listed.listed p.toi) ∙ whole_is_some held p.toi ∙ not_ready_before held p (get held.objects p.toi) refl is fresh new.wanting

    by_ready : (x : Bool) → are_different (if x then ready ++ p.toi ∷ [] else ready) ≡ true
    by_ready true = different_longer p.toi ready absent listed.different
    by_ready false = listed.different

    its_own : (x : Bool) → x ≡ is_in p.toi (if x then ready ++ p.toi ∷ [] else ready)
    its_own true = sym (in_longer p.toi p.toi ready ∙ last (is_in p.toi ready) p.toi)
      where
        last : (y : Bool) (t : ℕ) → (y || (t == t)) ≡ true
        last y t = let same : (t == t) ≡ true = grind (arith, nat_tests) in ap (λ z. y || z) same ∙ or_true y
          where
            or_true : (y : Bool) → (y || true) ≡ true
            or_true true = refl
            or_true false = refl
    its_own false = sym absent

    others : (t : ℕ) (x : Bool) → (p.toi == t) ≡ false → is_in t (if x then ready ++ p.toi ∷ [] else ready) ≡ is_in t ready
    others t true apart = in_longer t p.toi ready ∙ ap (λ z. is_in t ready || z) apart ∙ or_false (is_in t ready)
      where
        or_false : (y : Bool) → (y || false) ≡ y
        or_false true = refl
        or_false false = refl
    others t false apart = refl

    by_object : (t : ℕ) (x : Bool) → (p.toi == t) ≡ x → is_some (whole (joined held p) t)
        ≡ is_in t (if is_ready (joined held p) p.toi p.oti then ready ++ p.toi ∷ [] else ready)
    by_object t true here = subst (λ (u : ℕ). is_some (whole (joined held p) u)
        ≡ is_in u (if is_ready (joined held p) p.toi p.oti then ready ++ p.toi ∷ [] else ready)) (eqb-true p.toi t here)
        (whole_is_some (joined held p) p.toi ∙ ap (is_whole (joined held p) p.toi)
        (object_joined held p p.toi ∙ ap (λ x. cond x (Some p.oti) (get held.objects p.toi)) (itself p.toi))
        ∙ its_own (is_ready (joined held p) p.toi p.oti))
      where
        itself : (t : ℕ) → (t == t) ≡ true
        itself t = grind (arith, nat_tests)
    by_object t false there =
        whole_is_some (joined held p) t ∙ ap (is_whole (joined held p) t) (object_joined held p t ∙ ap (λ x. cond x (Some p.oti) (get held.objects t)) there)
        ∙ ready_elsewhere held p t (get held.objects t) there ∙ sym (whole_is_some held t) ∙ listed.listed t ∙ sym (others t (is_ready (joined held p) p.toi p.oti) there)

-- nothing is ready where nothing is held
pub nothing_listed_ready : IsListed nothing_held []
nothing_listed_ready = record { listed = λ t. ap is_some (nothing_whole t); different = refl }
