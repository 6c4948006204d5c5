-- What is held at a place, and of an object, once a packet has joined.
use Rattle.std.proofs.Common.{◌≡◌, ℕ, Bool, true, false, cond, ◌&&◌, ◌∙◌, refl, sym, ap, subst, arith, eqb-true, Option, Some, List}
use Rattle.std.specs.Prelude.{◌==◌}
use Rattle.std.specs.Cmp.{nat_cmp_total}
use Rattle.std.specs.FinMap.{get, get-insert}
use Rattle.std.proofs.lemmas.Bool.{and_parts}
use Rattle.std.proofs.lemmas.Bool.Decides.{nat_tests}
use Rattle.oti_blocks.specs.Partition.{ObjectInformation}
use Rattle.alc_packet.specs.Packet.{SymbolPacket, full}
use Rattle.held_packets.specs.Held.{Held, place, row_at, joined}
use Rattle.held_packets.proofs.Places.{tied_numbers}
use Rattle.held_packets.proofs.Counting.{row_joined}

-- the packet's place is this one
abbrev pub at_place : SymbolPacket → ℕ → ℕ → ℕ → Bool
at_place p t b j = (p.toi == t) && ((p.sbn == b) && (p.esi == j))

pub record IsThere (p : SymbolPacket) (t b j : ℕ) : Type 0 where
  pub toi : p.toi ≡ t
  pub sbn : p.sbn ≡ b
  pub esi : p.esi ≡ j

pub there : (p : SymbolPacket) (t b j : ℕ) → at_place p t b j ≡ true → IsThere p t b j
there p t b j e =
    let first = and_parts (p.toi == t) ((p.sbn == b) && (p.esi == j)) e in
    let second = and_parts (p.sbn == b) (p.esi == j) first.1 in
    record { toi = eqb-true p.toi t first.0; sbn = eqb-true p.sbn b second.0; esi = eqb-true p.esi j second.1 }

-- a choice by a test, in both cases
pub by_test : {A : Type 0} (P : A → Type 0) (b : Bool) (x y : A) → (b ≡ true → P x) → (b ≡ false → P y) → P (cond b x y)
by_test P true x y holds fails = holds refl
by_test P false x y holds fails = fails refl

-- what is held at a place: the packet's symbol at its own, and else as before
pub with_row : (held : Held) (p : SymbolPacket) (t b j : ℕ) (P : Option (List ℕ) → Type 0)
    → (at_place p t b j ≡ true → P (Some (full p))) → (at_place p t b j ≡ false → P (row_at held (place t b j))) → P (row_at (joined held p) (place t b j))
with_row held p t b j P here elsewhere =
    subst P (sym (row_joined held p t b j)) (by_test P (at_place p t b j) (Some (full p)) (row_at held (place t b j)) here elsewhere)

-- the transmission information of the packet's object, and of others as before
pub object_joined : (held : Held) (p : SymbolPacket) (t : ℕ) → get (joined held p).objects t ≡ cond (p.toi == t) (Some p.oti) (get held.objects t)
object_joined held p t = get-insert nat_cmp_total held.objects p.toi p.oti t ∙ ap (λ b. cond b (Some p.oti) (get held.objects t)) (tied_numbers t p.toi)

pub with_object : (held : Held) (p : SymbolPacket) (t : ℕ) (P : Option ObjectInformation → Type 0)
    → (p.toi ≡ t → P (Some p.oti)) → ((p.toi == t) ≡ false → P (get held.objects t)) → P (get (joined held p).objects t)
with_object held p t P here elsewhere =
    subst P (sym (object_joined held p t)) (by_test P (p.toi == t) (Some p.oti) (get held.objects t) (λ e. here (eqb-true p.toi t e)) elsewhere)

-- the packet's object is open
pub open_joined : (held : Held) (p : SymbolPacket) → get (joined held p).objects p.toi ≡ Some p.oti
open_joined held p = object_joined held p p.toi ∙ ap (λ b. cond b (Some p.oti) (get held.objects p.toi)) (itself p.toi) where
  itself : (x : ℕ) → (x == x) ≡ true
  itself x = grind (arith, nat_tests)
