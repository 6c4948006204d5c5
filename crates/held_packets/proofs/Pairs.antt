-- What holds of each held pair that packets leave, of a session or not.
use Rattle.std.proofs.Common.{◌≡◌, ◌≢◌, ℕ, ◌<◌, ◌≤◌, true, false, ◌==◌, List, [], ◌∷◌, length, fold, ◌∙◌, refl, sym, ap, subst}
use Rattle.std.proofs.Common.{arith, Option, Some, None, All, inl, inr, eqb-true}
use Rattle.std.specs.Prelude.{is_some, if◌then◌else◌}
use Rattle.std.specs.FinMap.{get}
use Rattle.std.proofs.lemmas.Bool.{eqb-false}
use Rattle.std.proofs.lemmas.Option.{same_Some}
use Rattle.std.proofs.lemmas.Bool.Decides.{nat_tests}
use Rattle.std.proofs.lemmas.List.Elements.{All-head, All-tail}
use Rattle.oti_blocks.specs.Partition.{ObjectInformation, IsSound, blocks, size_at, encoding_at, symbol_of}
use Rattle.oti_blocks.proofs.Public.{last_length_bounds}
use Rattle.alc_packet.specs.Packet.{SymbolPacket, IsPacket, full}
use Rattle.wire_bytes.proofs.Public.{count_none, length_filled}
use Rattle.held_packets.specs.Held.{Held, nothing_held, place, row_at, is_held, symbols_held, joined}
use Rattle.held_packets.specs.HeldPair.{IsHeldPair}
use Rattle.held_packets.specs.Verdict.{verdict, is_new, step, held_after}
use Rattle.held_packets.proofs.Nothing.{nothing_pair}
use Rattle.held_packets.proofs.Counting.{IsFresh, symbols_here, symbols_elsewhere}
use Rattle.held_packets.proofs.Verdicts.{IsNew, new_says}
use Rattle.held_packets.proofs.Joined.{IsThere, there, with_row, with_object, open_joined}

-- the filled symbol has the symbol's length
pub length_full : (p : SymbolPacket) → IsPacket p → length (full p) ≡ symbol_of p.oti
unfolding full
length_full p packet =
    let within : length p.symbol ≤ symbol_of p.oti = elim packet.symbol [
      | inl whole ↦ omega (arith, whole.whole)
      | inr cut ↦ omega (arith, cut.cut, (last_length_bounds p.oti packet.sound).2)
    ] in
    length_filled (symbol_of p.oti) p.symbol within

-- a new packet is fresh
pub fresh_of_new : (budget : ℕ) (held : Held) (p : SymbolPacket) → IsHeldPair held → IsPacket p → IsNew budget held p → IsFresh held p
fresh_of_new budget held p pair packet new = record {
  agrees = new.agrees;
  vacant = new.vacant;
  unopened = λ closed b j. none (row_at held (place p.toi b j)) (λ row is.
      let open_ = pair.opened p.toi b j row is in
      let both : false ≡ true = sym (ap is_some closed) ∙ open_ in cc);
  block = packet.block;
  symbol = packet.place;
} where
  none : (o : Option (List ℕ)) → ((row : List ℕ) → o ≡ Some row → ⊥) → o ≡ None
  none None never = refl
  none (Some row) never = absurd (never row refl)

-- the packet's object has the packet's information once it has joined
information_joined : (held : Held) (p : SymbolPacket) (t : ℕ) (o : ObjectInformation) → p.toi ≡ t → get (joined held p).objects t ≡ Some o → p.oti ≡ o
information_joined held p t o at is = same_Some p.oti o (sym (open_joined held p) ∙ ap (get (joined held p).objects) at ∙ is)

-- an object with this information was open with it, or is the packet's
pub data Was (held : Held) (p : SymbolPacket) (t : ℕ) (o : ObjectInformation) : Type 0 where
  WasOpen : get held.objects t ≡ Some o → Was held p t o
  IsPackets : p.toi ≡ t → p.oti ≡ o → Was held p t o

was : (held : Held) (p : SymbolPacket) (t : ℕ) (o : ObjectInformation) → get (joined held p).objects t ≡ Some o → Was held p t o
was held p t o = with_object held p t (λ i. i ≡ Some o → Was held p t o) (λ at is. IsPackets at (same_Some p.oti o is)) (λ e is. WasOpen is)

-- a row held before is within its object
row_within : (held : Held) (p : SymbolPacket) (t b j : ℕ) (row : List ℕ) (o : ObjectInformation)
    → IsHeldPair held → IsFresh held p → row_at held (place t b j) ≡ Some row → Was held p t o
    → (b < blocks o) × (j < encoding_at o b) × (length row ≡ symbol_of o)
row_within held p t b j row o pair fresh is (WasOpen open_) = pair.within t b j row o is open_
row_within held p t b j row o pair fresh is (IsPackets at same) =
    elim (get held.objects t) as (λ i. get held.objects t ≡ i → (b < blocks o) × (j < encoding_at o b) × (length row ≡ symbol_of o)) [
      | None ↦ λ e. absurd (let open_ = pair.opened t b j row is in let both : false ≡ true = sym (ap is_some e) ∙ open_ in cc)
      | Some i ↦ λ e.
          let one : i ≡ o = fresh.agrees i (ap (get held.objects) at ∙ e) ∙ same in
          pair.within t b j row o is (e ∙ ap (λ v. Some v) one)
    ] refl

-- of a packet that has joined at its place
packet_within : (p : SymbolPacket) (t b j : ℕ) (row : List ℕ) (o : ObjectInformation) → IsPacket p
    → IsThere p t b j → p.oti ≡ o → full p ≡ row → (b < blocks o) × (j < encoding_at o b) × (length row ≡ symbol_of o)
packet_within p t b j row o packet at same is =
    let block : p.sbn < blocks o = subst (λ i. p.sbn < blocks i) same packet.block in
    let esi : p.esi < encoding_at o p.sbn = subst (λ i. p.esi < encoding_at i p.sbn) same packet.place in (
      subst (λ n. n < blocks o) at.sbn block,
      subst (λ n. j < encoding_at o n) at.sbn (subst (λ n. n < encoding_at o p.sbn) at.esi esi),
      ap length (sym is) ∙ length_full p packet ∙ ap (λ (i : ObjectInformation). symbol_of i) same,
    )

-- no block of the packet's object has more symbols than source symbols
most_of_packets : (held : Held) (p : SymbolPacket) (b : ℕ) → IsHeldPair held → IsFresh held p
    → symbols_held held p.toi p.oti p.sbn < size_at p.oti p.sbn → symbols_held (joined held p) p.toi p.oti b ≤ size_at p.oti b
most_of_packets held p b pair fresh wanting = elim (p.sbn == b) as (λ c. (p.sbn == b) ≡ c → symbols_held (joined held p) p.toi p.oti b ≤ size_at p.oti b) [
  | true ↦ λ e. subst (λ n. symbols_held (joined held p) p.toi p.oti n ≤ size_at p.oti n) (eqb-true p.sbn b e) (omega (arith, symbols_here held p fresh, wanting))
  | false ↦ λ e. elim (get held.objects p.toi) as (λ i. get held.objects p.toi ≡ i → symbols_held (joined held p) p.toi p.oti b ≤ size_at p.oti b) [
    | None ↦ λ closed.
        let none = count_none (encoding_at p.oti b) (λ j. is_held held (place p.toi b j)) (λ j less. ap is_some (fresh.unopened closed b j)) in
        omega (arith, symbols_elsewhere held p p.toi b p.oti (λ same other. eqb-false p.sbn b e other), none)
    | Some i ↦ λ open_.
        let most = pair.most p.toi b p.oti (open_ ∙ ap (λ v. Some v) (fresh.agrees i open_)) in
        omega (arith, symbols_elsewhere held p p.toi b p.oti (λ same other. eqb-false p.sbn b e other), most)
  ] refl
] refl

most_joined : (held : Held) (p : SymbolPacket) (t b : ℕ) (o : ObjectInformation) → IsHeldPair held
    → IsFresh held p → symbols_held held p.toi p.oti p.sbn < size_at p.oti p.sbn → Was held p t o
    → symbols_held (joined held p) t o b ≤ size_at o b
most_joined held p t b o pair fresh wanting (IsPackets at same) =
    subst (λ n. symbols_held (joined held p) n o b ≤ size_at o b)
    at (subst (λ i. symbols_held (joined held p) p.toi i b ≤ size_at i b) same (most_of_packets held p b pair fresh wanting))
most_joined held p t b o pair fresh wanting (WasOpen open_) = elim (p.toi == t) as (λ c. (p.toi == t) ≡ c → symbols_held (joined held p) t o b ≤ size_at o b) [
  | true ↦ λ e.
      let at = eqb-true p.toi t e in
      let same : p.oti ≡ o = sym (fresh.agrees o (ap (get held.objects) at ∙ open_)) in
      subst (λ n. symbols_held (joined held p) n o b ≤ size_at o b)
      at (subst (λ i. symbols_held (joined held p) p.toi i b ≤ size_at i b) same (most_of_packets held p b pair fresh wanting))
  | false ↦ λ e. omega (arith, symbols_elsewhere held p t b o (λ same other. eqb-false p.toi t e same), pair.most t b o open_)
] refl

pub pair_joined : (held : Held) (p : SymbolPacket) → IsHeldPair held → IsPacket p → IsFresh held p
    → symbols_held held p.toi p.oti p.sbn < size_at p.oti p.sbn → IsHeldPair (joined held p)
pair_joined held p pair packet fresh wanting = record {
  sound = λ t o. with_object held p t (λ i. i ≡ Some o → IsSound o) (λ at is. subst IsSound (same_Some p.oti o is) packet.sound) (λ e is. pair.sound t o is);
  opened = λ t b j row. with_row held p t b j (λ r. r ≡ Some row → is_some (get (joined held p).objects t) ≡ true)
      (λ test is. let at = there p t b j test in ap is_some (ap (get (joined held p).objects) (sym at.toi) ∙ open_joined held p))
      (λ test is. with_object held p t (λ i. is_some i ≡ true) (λ at. refl) (λ e. pair.opened t b j row is));
  within = λ t b j row o is open_.
      with_row held p t b j (λ r. r ≡ Some row → (b < blocks o) × (j < encoding_at o b) × (length row ≡ symbol_of o))
      (λ test e. let at = there p t b j test in packet_within p t b j row o packet at (information_joined held p t o at.toi open_) (same_Some (full p) row e))
      (λ test e. row_within held p t b j row o pair fresh e (was held p t o open_)) is;
  most = λ t b o open_. most_joined held p t b o pair fresh wanting (was held p t o open_);
}

-- one packet more, whatever its verdict
pub pair_after : (budget : ℕ) (held : Held) (p : SymbolPacket) → IsHeldPair held → IsPacket p → IsHeldPair (step budget held p)
pair_after budget held p pair packet = elim (is_new (verdict budget held p))
    as (λ b. is_new (verdict budget held p) ≡ b → IsHeldPair (if b then joined held p else held)) [
      | true ↦ λ e. let new = new_says budget held p e in pair_joined held p pair packet (fresh_of_new budget held p pair packet new) new.wanting
      | false ↦ λ e. pair
    ] refl

pub pair_after_list : (budget : ℕ) (held : Held) (ps : List SymbolPacket) → IsHeldPair held → All IsPacket ps → IsHeldPair (fold (step budget) held ps)
pair_after_list budget held [] pair are = pair
pair_after_list budget held (p ∷ ps) pair are = pair_after_list budget (step budget held p)
    ps (pair_after budget held p pair (All-head IsPacket p ps are)) (All-tail IsPacket p ps are)

pub held_is_pair : (budget : ℕ) (ps : List SymbolPacket) → All IsPacket ps → IsHeldPair (held_after budget ps)
held_is_pair budget ps are = pair_after_list budget nothing_held ps nothing_pair are
