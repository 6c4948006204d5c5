-- Datagrams and their packets, one after the other.
use Rattle.std.proofs.Common.{◌≡◌, ℕ, List, [], ◌∷◌, ◌∙◌, refl, Option, Some, None}
use Rattle.std.specs.List.{fold, cons_option}
use Rattle.alc_packet.specs.Packet.{SymbolPacket}
use Rattle.held_packets.specs.Held.{Held}
use Rattle.held_packets.specs.Verdict.{step}
use Rattle.receiver_core.specs.Classes.{packet_under, packets_of, held_with, held_with_packet}

in_front : (budget : ℕ) (held : Held) (first : Option SymbolPacket) (ps : List SymbolPacket)
    → fold (step budget) (held_with_packet budget held first) ps ≡ fold (step budget) held (cons_option first ps)
in_front budget held None ps = refl
in_front budget held (Some p) ps = refl

pub by_packets : (tsi budget : ℕ) (held : Held) (ds : List (List ℕ)) → fold (held_with tsi budget) held ds ≡ fold (step budget) held (packets_of tsi ds)
by_packets tsi budget held [] = refl
by_packets tsi budget held (d ∷ ds) = by_packets tsi budget (held_with tsi budget held d) ds ∙ in_front budget held (packet_under tsi d) (packets_of tsi ds)
