-- A packet as it is written (RFC 5775, section 2; RFC 5651, section 5.1).
use Rattle.std.specs.Prelude.{ℕ, ◌^◌, Bool, false, ◌&&◌, nat_lt, List, [], ◌∷◌, ◌++◌, unwrap_or, find}
use Rattle.lct_header.specs.Header.{Header}
use Rattle.lct_header.specs.Spelling.{spelling}
use Rattle.oti_blocks.specs.Wire.{fti}
use Rattle.alc_packet.specs.Packet.{SymbolPacket}
use Rattle.alc_packet.specs.Datagram.{codepoint, payload_of}

-- The bits of TSI and TOI that are tried, in this order: the flags (S, O, H) are (1, 1, 0), (1, 2, 0), (1, 3, 0),
-- (1, 1, 1), (1, 2, 1) and (1, 3, 1).
abbrev pub widths : List (ℕ × ℕ)
widths = (32, 32) ∷ (32, 64) ∷ (32, 96) ∷ (48, 48) ∷ (48, 80) ∷ (48, 112) ∷ []

-- both numbers fit
abbrev pub fits : ℕ → ℕ → ℕ × ℕ → Bool
fits tsi toi w = nat_lt tsi (2 ^ w.0) && nat_lt toi (2 ^ w.1)

-- the first widths in which both numbers fit
unfoldable pub least_widths : ℕ → ℕ → ℕ × ℕ
least_widths tsi toi = unwrap_or (find (fits tsi toi) widths) (48, 112)

-- the header, with the flag A as asked and B zero
abbrev pub header_of : SymbolPacket → Header
header_of p = record {
  close_session = p.close;
  close_object = false;
  tsi = p.tsi;
  tsi_bits = (least_widths p.tsi p.toi).0;
  toi = p.toi;
  toi_bits = (least_widths p.tsi p.toi).1;
  codepoint = codepoint;
}

-- the header with one extension, EXT_FTI, and the payload
abbrev pub written : SymbolPacket → List ℕ
written p = spelling (header_of p) (fti p.oti) ++ payload_of p
