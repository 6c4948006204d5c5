-- What is whole stays whole.
use Rattle.std.proofs.Common.{◌≡◌, ℕ, ◌<◌, true, false, ◌==◌, ◌&&◌, cond, List, [], ◌∷◌, ◌++◌, fold, map, take, ◌∙◌, refl, sym, ap}
use Rattle.std.proofs.Common.{arith, Option, Some, None, All, eqb-true}
use Rattle.std.specs.Prelude.{if◌then◌else◌, nat_le, is_some, unwrap_or}
use Rattle.std.specs.FinMap.{get}
use Rattle.std.proofs.lemmas.Bool.Decides.{nat_tests}
use Rattle.std.proofs.lemmas.List.Sums.{fold-append}
use Rattle.std.proofs.lemmas.List.Elements.{All-head, All-tail}
use Rattle.oti_blocks.specs.Partition.{ObjectInformation, blocks, size_at, encoding_at, length_of, symbol_of}
use Rattle.alc_packet.specs.Packet.{SymbolPacket, IsPacket, full}
use Rattle.wire_bytes.specs.Below.{all_below, count_below, join_below, which_below}
use Rattle.wire_bytes.proofs.Public.{not_all_below}
use Rattle.held_packets.specs.Held.{Held, nothing_held, place, row_at, symbols_held, joined}
use Rattle.held_packets.specs.Ready.{is_block_ready}
use Rattle.held_packets.specs.HeldPair.{IsHeldPair}
use Rattle.held_packets.specs.Verdict.{verdict, is_new, step, held_after}
use Rattle.held_packets.specs.Solved.{source_row}
use Rattle.held_packets.specs.Whole.{whole, bytes_when_ready, held_places, block_bytes}
use Rattle.held_packets.proofs.Counting.{IsFresh, row_joined}
use Rattle.held_packets.proofs.Verdicts.{new_says}
use Rattle.held_packets.proofs.Joined.{object_joined}
use Rattle.held_packets.proofs.Pairs.{fresh_of_new, pair_after, held_is_pair}

-- an object with the same rows has the same bytes
pub same_bytes : (first second : Held) (t : ℕ) (o : ObjectInformation) → ((b j : ℕ) → row_at first (place t b j) ≡ row_at second (place t b j))
    → bytes_when_ready first t (Some o) ≡ bytes_when_ready second t (Some o)
unfolding block_bytes held_places
same_bytes first second t o same = λ i.
    let places : ℕ → List ℕ = λ b. take (size_at o b) (which_below (encoding_at o b) (λ j. is_some (same b j i))) in
    if all_below (blocks o) (λ b. nat_le (size_at o b) (count_below (encoding_at o b) (λ j. is_some (same b j i))))
    then Some (take (length_of o) (join_below (blocks o)
    (λ b. join_below (size_at o b) (λ n. source_row (symbol_of o) (places b) (map (λ j. unwrap_or (same b j i) []) (places b)) n))))
    else None

-- another object's rows are as before
row_elsewhere : (held : Held) (p : SymbolPacket) (t b j : ℕ) → (p.toi == t) ≡ false → row_at (joined held p) (place t b j) ≡ row_at held (place t b j)
row_elsewhere held p t b j apart = row_joined held p t b j ∙ ap (λ c. cond (c && ((p.sbn == b) && (p.esi == j))) (Some (full p)) (row_at held (place t b j))) apart

-- another object is whole as before
whole_elsewhere : (held : Held) (p : SymbolPacket) (t : ℕ) → (p.toi == t) ≡ false → whole (joined held p) t ≡ whole held t
unfolding whole
whole_elsewhere held p t apart =
    ap (bytes_when_ready (joined held p) t) (object_joined held p t ∙ ap (λ b. cond b (Some p.oti) (get held.objects t)) apart)
    ∙ alike (get held.objects t)
  where
    alike : (o : Option ObjectInformation) → bytes_when_ready (joined held p) t o ≡ bytes_when_ready held t o
    alike None = refl
    alike (Some o) = same_bytes (joined held p) held t o (λ b j. row_elsewhere held p t b j apart)

-- the packet's object wasn't whole
whole_here : (held : Held) (p : SymbolPacket) → IsFresh held p → symbols_held held p.toi p.oti p.sbn < size_at p.oti p.sbn → whole held p.toi ≡ None
unfolding whole
whole_here held p fresh wanting = elim (get held.objects p.toi) as (λ o. get held.objects p.toi ≡ o → bytes_when_ready held p.toi o ≡ None) [
  | None ↦ λ e. refl
  | Some o ↦ λ e. ap (λ u. bytes_when_ready held p.toi (Some u)) (fresh.agrees o e)
      ∙ rw (not_all_below (blocks p.oti) p.sbn (is_block_ready held p.toi p.oti) fresh.block (too_few (size_at p.oti p.sbn) _ wanting)) refl
] refl where
  too_few : (n m : ℕ) → m < n → nat_le n m ≡ false
  too_few n m h = grind (arith, nat_tests)

-- what is whole stays whole when a packet joins
pub whole_kept : (held : Held) (p : SymbolPacket) → IsFresh held p → symbols_held held p.toi p.oti p.sbn < size_at p.oti p.sbn
    → (t : ℕ) (bytes : List ℕ) → whole held t ≡ Some bytes → whole (joined held p) t ≡ Some bytes
whole_kept held p fresh wanting t bytes e = elim (p.toi == t) as (λ x. (p.toi == t) ≡ x → whole (joined held p) t ≡ Some bytes) [
  | true ↦ λ same. absurd (let both : None ≡ Some bytes = sym (whole_here held p fresh wanting) ∙ ap (whole held) (eqb-true p.toi t same) ∙ e in cc)
  | false ↦ λ apart. whole_elsewhere held p t apart ∙ e
] refl

-- and with any packet
pub whole_after : (budget : ℕ) (held : Held) (p : SymbolPacket) → IsHeldPair held → IsPacket p
    → (t : ℕ) (bytes : List ℕ) → whole held t ≡ Some bytes → whole (step budget held p) t ≡ Some bytes
whole_after budget held p pair packet t bytes is = elim (is_new (verdict budget held p))
    as (λ b. is_new (verdict budget held p) ≡ b → whole (if b then joined held p else held) t ≡ Some bytes) [
      | true ↦ λ e. let new = new_says budget held p e in whole_kept held p (fresh_of_new budget held p pair packet new) new.wanting t bytes is
      | false ↦ λ e. is
    ] refl

-- and with any list of packets
pub whole_after_list : (budget : ℕ) (held : Held) (ps : List SymbolPacket) → IsHeldPair held → All IsPacket ps
    → (t : ℕ) (bytes : List ℕ) → whole held t ≡ Some bytes → whole (fold (step budget) held ps) t ≡ Some bytes
whole_after_list budget held [] pair are t bytes is = is
whole_after_list budget held (p ∷ ps) pair are t bytes is =
    let packet = All-head IsPacket p ps are in
    whole_after_list budget (step budget held p) ps (pair_after budget held p pair packet)
    (All-tail IsPacket p ps are) t bytes (whole_after budget held p pair packet t bytes is)

-- so no list of packets takes anything away from what is whole
pub whole_grows : (budget : ℕ) (ps qs : List SymbolPacket) → All IsPacket ps → All IsPacket qs → (t : ℕ) (bytes : List ℕ)
    → whole (held_after budget ps) t ≡ Some bytes → whole (held_after budget (ps ++ qs)) t ≡ Some bytes
whole_grows budget ps qs first second t bytes is =
    ap (λ h. whole h t) (fold-append (step budget) nothing_held ps qs)
    ∙ whole_after_list budget (held_after budget ps) qs (held_is_pair budget ps first) second t bytes is
