use Rattle.std.proofs.Common.{Option, refl, sym, ap}
use Rattle.wire_bytes.specs.FirstFault.{unless_fault}
use Rattle.alc_packet.specs.declared.refusal.Refusal.{Refusal}
use Rattle.alc_packet.specs.Packet.{SymbolPacket}
use Rattle.alc_packet.proofs.Lines.{packet_from_lines}
use Rattle.alc_packet.proofs.datagram.Packet.make.Goals as goal

pub returns-in-Some : goal.returns-in-Some
returns-in-Some c =
    let p : SymbolPacket =
    record { tsi = c.args.tsi; toi = c.args.toi; oti = c.args.oti; sbn = c.args.sbn; esi = c.args.esi; symbol = c.args.symbol.now; close = c.args.close } in
    ap (λ (fault : Option Refusal). unless_fault fault p) (c.in-Some.ensures.first p refl refl refl refl)

pub invariant_of-result : goal.invariant_of-result
invariant_of-result c =
    let p : SymbolPacket =
    record { tsi = c.args.tsi; toi = c.args.toi; oti = c.args.oti; sbn = c.args.sbn; esi = c.args.esi; symbol = c.args.symbol.now; close = c.args.close } in
    packet_from_lines p c.requires.tsi c.requires.toi c.in_default.ensures.sound (sym (c.in_default.ensures.first p refl refl refl refl))

pub returns : goal.returns
returns c =
    let p : SymbolPacket =
    record { tsi = c.args.tsi; toi = c.args.toi; oti = c.args.oti; sbn = c.args.sbn; esi = c.args.esi; symbol = c.args.symbol.now; close = c.args.close } in
    ap (λ (fault : Option Refusal). unless_fault fault p) (c.in_default.ensures.first p refl refl refl refl)
