-- The packets that are read of datagrams are those that they spell.
use Rattle.std.proofs.Common.{◌≡◌, ℕ, Bool, true, false, List, [], ◌∷◌, ◌∙◌, refl, sym, ap, subst, Option, Some, None, inl, inr, eqb-true}
use Rattle.std.specs.Prelude.{◌↔◌, ◌⊎◌, ◌==◌, if◌then◌else◌, Result, Ok, Err}
use Rattle.std.specs.List.{All, cons_option}
use Rattle.std.proofs.lemmas.Bool.{eq-eqb}
use Rattle.std.proofs.lemmas.List.Elements.{All-head, All-tail}
use Rattle.wire_bytes.specs.Bytes.{AreBytes}
use Rattle.alc_packet.specs.Packet.{SymbolPacket}
use Rattle.alc_packet.specs.Datagram.{Spells}
use Rattle.alc_packet.specs.Answer.{Says}
use Rattle.alc_packet.specs.Reply.{reply}
use Rattle.alc_packet.specs.declared.datagram.Datagram.{Datagram}
use Rattle.alc_packet.specs.declared.datagram.Datagram.TheVariants as datagrams
use Rattle.alc_packet.specs.declared.refusal.Refusal.{Refusal}
use Rattle.alc_packet.proofs.Public.{some_answer, answered}
use Rattle.receiver_core.specs.Classes.{packet_of_reply, packet_under, packets_of}
use Rattle.receiver_core.specs.SessionPackets.{IsPacketOf, ArePacketsOf}

pub says_reply : (d : List ℕ) → AreBytes d → Says d (reply d)
says_reply d bytes = let a = some_answer d bytes in subst (λ r. Says d r) (sym (answered d a.0 a.1)) a.1

-- ---- of one datagram

read_is_spelled : (tsi : ℕ) (d : List ℕ) (q p : SymbolPacket) → Spells d q → (b : Bool) → (q.tsi == tsi) ≡ b
    → (if b then Some q else None) ≡ Some p → IsPacketOf tsi d p
read_is_spelled tsi d q p spells true same e =
    subst (IsPacketOf tsi d) (let h : q ≡ p = cc in h) (record { spells = spells; session = eqb-true q.tsi tsi same })
read_is_spelled tsi d q p spells false same e = absurd (let no_value : None ≡ Some p = e in cc)

replied_is_spelled : (tsi : ℕ) (d : List ℕ) (p : SymbolPacket) (r : Result Datagram Refusal) → Says d r → packet_of_reply tsi r ≡ Some p → IsPacketOf tsi d p
replied_is_spelled tsi d p (Err refusal) says e = absurd (let no_value : None ≡ Some p = e in cc)
replied_is_spelled tsi d p (Ok (datagrams.Symbol q)) says e = read_is_spelled tsi d q p says (q.tsi == tsi) refl e
replied_is_spelled tsi d p (Ok (datagrams.Control t close)) says e = absurd (let no_value : None ≡ Some p = e in cc)

is_spelled : (tsi : ℕ) (d : List ℕ) (p : SymbolPacket) → AreBytes d → packet_under tsi d ≡ Some p → IsPacketOf tsi d p
is_spelled tsi d p bytes e = replied_is_spelled tsi d p (reply d) (says_reply d bytes) e

is_read : (tsi : ℕ) (d : List ℕ) (p : SymbolPacket) → IsPacketOf tsi d p → packet_under tsi d ≡ Some p
is_read tsi d p is =
    ap (packet_of_reply tsi) (answered d (Ok (datagrams.Symbol p)) is.spells) ∙ ap (λ b. if b then Some p else None) (eq-eqb p.tsi tsi is.session)

none_read : (tsi : ℕ) (d : List ℕ) → AreBytes d → ((p : SymbolPacket) → IsPacketOf tsi d p → ⊥) → (o : Option SymbolPacket) → packet_under tsi d ≡ o → o ≡ None
none_read tsi d bytes none None e = refl
none_read tsi d bytes none (Some p) e = absurd (none p (is_spelled tsi d p bytes e))

-- ---- of a list

with_one : (tsi : ℕ) (d : List ℕ) (ds : List (List ℕ)) (rest : List SymbolPacket) → AreBytes d → ArePacketsOf tsi ds rest
    → (o : Option SymbolPacket) → packet_under tsi d ≡ o → ArePacketsOf tsi (d ∷ ds) (cons_option o rest)
with_one tsi d ds rest bytes are None e =
    inr ((λ p is. absurd (let both : None ≡ Some p = sym e ∙ is_read tsi d p is in cc)), are)
with_one tsi d ds rest bytes are (Some p) e = inl (p, rest, refl, is_spelled tsi d p bytes e, are)

pub are_spelled : (tsi : ℕ) (ds : List (List ℕ)) → All AreBytes ds → ArePacketsOf tsi ds (packets_of tsi ds)
are_spelled tsi [] all = refl
are_spelled tsi (d ∷ ds) all =
    with_one tsi d ds (packets_of tsi ds) (All-head AreBytes d ds all) (are_spelled tsi ds (All-tail AreBytes d ds all)) (packet_under tsi d) refl

are_read : (tsi : ℕ) (ds : List (List ℕ)) (packets : List SymbolPacket) → All AreBytes ds → ArePacketsOf tsi ds packets → packets_of tsi ds ≡ packets
are_read tsi [] packets all are = sym are
are_read tsi (d ∷ ds) packets all (inl (p, rest, is, spelled, are)) =
    ap (λ o. cons_option o (packets_of tsi ds)) (is_read tsi d p spelled)
    ∙ ap (λ ps. p ∷ ps) (are_read tsi ds rest (All-tail AreBytes d ds all) are) ∙ sym is
are_read tsi (d ∷ ds) packets all (inr (none, are)) =
    ap (λ o. cons_option o (packets_of tsi ds)) (none_read tsi d (All-head AreBytes d ds all) none (packet_under tsi d) refl)
    ∙ are_read tsi ds packets (All-tail AreBytes d ds all) are

pub packets_where_spelled : (tsi : ℕ) (ds : List (List ℕ)) (packets : List SymbolPacket) → All AreBytes ds
    → (packets_of tsi ds ≡ packets) ↔ ArePacketsOf tsi ds packets
packets_where_spelled tsi ds packets all =
    ((λ is. subst (ArePacketsOf tsi ds) is (are_spelled tsi ds all)), are_read tsi ds packets all)
