use Rattle.alc_packet.specs.Packet.{SymbolPacket}
use Rattle.alc_packet.proofs.Packets.{places_fit}
use Rattle.alc_packet.proofs.writing.push_payload.Goals as goal

pub payload_id-requires : goal.payload_id-requires
payload_id-requires c =
    let i = c.packet.inside in
    let p : SymbolPacket = record { tsi = i.tsi; toi = i.toi; oti = i.oti; sbn = i.sbn; esi = i.esi; symbol = i.symbol.now; close = i.close } in
    (places_fit p c.packet.invariant).0
