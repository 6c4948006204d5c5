-- The packet of a symbol is one.
use Rattle.std.proofs.Common.{false, sym, subst, arith}
use Rattle.alc_packet.specs.Packet.{IsPacket}
use Rattle.sender_plan.specs.Session.{SentObject}
use Rattle.sender_schedule.proofs.Packets.{packet_is}
use Rattle.sender_schedule.proofs.datagram.packet.Goals as goal

pub invariant_of-result : goal.invariant_of-result
invariant_of-result c =
    let p = c.args.id in
    let symbol = c.args.symbol.now in
    subst (λ (o : SentObject). IsPacket (record { tsi = c.from.result; toi = o.toi; oti = o.oti; sbn = p.sbn; esi = p.esi; symbol = symbol; close = false }))
    (sym c.object.view_is)
    (rw (c.from.ensures, c.requires.symbol) (packet_is c.args.tsi c.args.object.now p (omega (arith, c.ranges.tsi.fits)) c.requires.object c.requires.id))
