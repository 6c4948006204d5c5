-- The packets of a session among some datagrams, in the words of the grammar (RFC 5775, section 4.1).
use Rattle.std.specs.Prelude.{◌≡◌, ◌⊎◌, ℕ, List, [], ◌∷◌}
use Rattle.alc_packet.specs.Packet.{SymbolPacket}
use Rattle.alc_packet.specs.Datagram.{Spells}

-- the datagram spells this packet, and its session has this identifier
pub record IsPacketOf (tsi : ℕ) (datagram : List ℕ) (p : SymbolPacket) : Type 0 where
  pub spells : Spells datagram p
  pub session : p.tsi ≡ tsi

-- these are the packets of the session that the datagrams spell, in order
abbrev pub ArePacketsOf : ℕ → List (List ℕ) → List SymbolPacket → Type 0
ArePacketsOf tsi [] packets = packets ≡ []
ArePacketsOf tsi (d ∷ ds) packets =
    ((p : SymbolPacket) × (rest : List SymbolPacket) × (packets ≡ p ∷ rest) × IsPacketOf tsi d p × ArePacketsOf tsi ds rest)
    ⊎ (((p : SymbolPacket) → IsPacketOf tsi d p → ⊥) × ArePacketsOf tsi ds packets)
