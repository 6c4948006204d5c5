-- The packets of a session that datagrams spell.
use Rattle.std.proofs.Common.{◌≡◌, ℕ, ◌<◌, ◌^◌, arith, get_or, Bool, true, false, List, [], ◌∷◌, refl, subst, Option, Some, None, eqb-true}
use Rattle.std.specs.Prelude.{◌==◌, if◌then◌else◌, Result, Ok, Err}
use Rattle.std.specs.List.{All, cons_option}
use Rattle.std.proofs.lemmas.List.{get_or_default}
use Rattle.std.proofs.lemmas.List.Elements.{All-head, All-tail, All-cons, All-nil}
use Rattle.wire_bytes.specs.Bytes.{AreBytes}
use Rattle.alc_packet.specs.Packet.{SymbolPacket, IsPacket}
use Rattle.alc_packet.specs.Datagram.{Spells}
use Rattle.alc_packet.specs.Answer.{Says}
use Rattle.alc_packet.specs.Reply.{reply}
use Rattle.alc_packet.specs.declared.datagram.Datagram.{Datagram}
use Rattle.alc_packet.specs.declared.datagram.Datagram.TheVariants as datagrams
use Rattle.alc_packet.specs.declared.refusal.Refusal.{Refusal}
use Rattle.receiver_core.proofs.Public.{says_reply}
use Rattle.receiver_core.specs.Classes.{packet_of_reply, packet_under, packets_of}

-- a list of numbers below 256
pub are_bytes : (d : List ℕ) → ((i : ℕ) → get_or d i 0 < 2 ^ 8) → AreBytes d
are_bytes d fits i x less = let is : get_or d i x ≡ get_or d i 0 = get_or_default d i x 0 less in omega (arith, is, fits i)

-- what holds of each packet of the session that a datagram spells holds of the one that is read
of_symbol : (P : SymbolPacket → Type 0) (tsi : ℕ) (q p : SymbolPacket) → (q.tsi ≡ tsi → P q)
    → (b : Bool) → (q.tsi == tsi) ≡ b → (if b then Some q else None) ≡ Some p → P p
of_symbol P tsi q p holds true same e = subst P (let h : q ≡ p = cc in h) (holds (eqb-true q.tsi tsi same))
of_symbol P tsi q p holds false same e = cc

of_reply : (P : SymbolPacket → Type 0) (tsi : ℕ) (d : List ℕ) (p : SymbolPacket) → ((q : SymbolPacket) → Spells d q → q.tsi ≡ tsi → P q)
    → (r : Result Datagram Refusal) → Says d r → packet_of_reply tsi r ≡ Some p → P p
of_reply P tsi d p holds (Err refusal) says e = cc
of_reply P tsi d p holds (Ok (datagrams.Symbol q)) says e = of_symbol P tsi q p (holds q says) (q.tsi == tsi) refl e
of_reply P tsi d p holds (Ok (datagrams.Control t close)) says e = cc

with_packet : (P : SymbolPacket → Type 0) (o : Option SymbolPacket) (ps : List SymbolPacket)
    → ((p : SymbolPacket) → o ≡ Some p → P p) → All P ps → All P (cons_option o ps)
with_packet P None ps one rest = rest
with_packet P (Some p) ps one rest = All-cons P p ps (one p refl) rest

-- and so it holds of the packets of datagrams which are such
pub packets_have : (P : SymbolPacket → Type 0) (Q : List ℕ → Type 0) (tsi : ℕ)
    → ((d : List ℕ) → Q d → AreBytes d × ((q : SymbolPacket) → Spells d q → q.tsi ≡ tsi → P q))
    → (ds : List (List ℕ)) → All Q ds → All P (packets_of tsi ds)
packets_have P Q tsi each [] all = All-nil P
packets_have P Q tsi each (d ∷ ds) all =
    let one = each d (All-head Q d ds all) in
    with_packet P (packet_under tsi d) (packets_of tsi ds) (λ p e. of_reply P tsi d p one.1 (reply d) (says_reply d one.0) e)
    (packets_have P Q tsi each ds (All-tail Q d ds all))

-- packets of bytes are such as the formats allow
pub packets_sound : (tsi : ℕ) (ds : List (List ℕ)) → All AreBytes ds → All IsPacket (packets_of tsi ds)
packets_sound tsi ds bytes = packets_have IsPacket AreBytes tsi (λ d are. (are, λ q spells of. spells.packet)) ds bytes
