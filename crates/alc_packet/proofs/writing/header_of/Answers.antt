use Rattle.alc_packet.proofs.Written.{header_suits}
use Rattle.alc_packet.proofs.writing.header_of.Goals as goal

pub invariant_of-result : goal.invariant_of-result
invariant_of-result c =
    rw c.least_widths-tsi_bits.ensures
    (header_suits (record {
      tsi = c.packet.inside.tsi;
      toi = c.packet.inside.toi;
      oti = c.packet.inside.oti;
      sbn = c.packet.inside.sbn;
      esi =
          c.packet.inside.esi;
      symbol = c.packet.inside.symbol.now;
      close = c.packet.inside.close;
    }) c.packet.invariant)
