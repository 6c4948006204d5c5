-- What is written is the datagram, which is short.
use Rattle.std.proofs.Common.{◌∙◌, length, ap, arith}
use Rattle.alc_packet.specs.Writing.{written}
use Rattle.sender_schedule.specs.Datagram.{datagram}
use Rattle.sender_schedule.proofs.Packets.{packet_is, datagram_short}
use Rattle.sender_schedule.proofs.datagram.datagram_into.Goals as goal

pub returns-clause-ok : goal.returns-clause-ok
unfolding datagram
returns-clause-ok c = c.in_ok-out.ensures.bytes ∙ ap written c.packet.ensures

pub returns-clause-short : goal.returns-clause-short
returns-clause-short c =
    let long = ap length (returns-clause-ok c) in
    let is = packet_is c.args.tsi c.args.object.now c.args.id (omega (arith, c.ranges.tsi.fits)) c.requires.object c.requires.id in
    let short = datagram_short c.args.tsi c.args.object.now c.args.id is c.requires.object.symbol in
    omega (arith, long, short, c.in_ok-out.field-0.ok)
