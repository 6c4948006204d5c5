-- What a datagram spells (RFC 5775, section 2): a packet with one encoding symbol, or a header alone.
use Rattle.std.specs.Prelude.{◌≡◌, ℕ, ◌≤◌, Bool, List, [], ◌∷◌, ◌++◌}
use Rattle.byteorder.specs.Endian.{big_bytes}
use Rattle.lct_header.specs.HeaderView.{HeaderView, BeginsWithHeader}
use Rattle.oti_blocks.specs.Wire.{fti_content}
use Rattle.alc_packet.specs.Packet.{SymbolPacket, IsPacket}
use Rattle.alc_packet.specs.Pieces.{Pieces, ArePieces}

-- the codepoint, which is the FEC Encoding ID (RFC 5510, section 4)
abbrev pub codepoint : ℕ
codepoint = 5

-- The FEC Payload ID: SBN in 24 bits and ESI in 8 (RFC 5510, section 4.1).
abbrev pub payload_id : ℕ → ℕ → List ℕ
payload_id sbn esi = big_bytes 3 sbn ++ big_bytes 1 esi

-- the payload: the payload ID and the symbol
abbrev pub payload_of : SymbolPacket → List ℕ
payload_of p = payload_id p.sbn p.esi ++ p.symbol

-- The datagram is this packet: a header with a TOI and with exactly one EXT_FTI, which has the packet's transmission
-- information, and the payload. A TSI of no bytes is 0.
pub record Spells (d : List ℕ) (p : SymbolPacket) : Type 0 where
  pub pieces : Pieces
  pub are : ArePieces d pieces
  pub scheme : pieces.header.codepoint ≡ codepoint
  pub some_toi : 16 ≤ pieces.header.toi_bits
  pub information : pieces.ftis ≡ fti_content p.oti ∷ []
  pub payload : pieces.payload ≡ payload_of p
  pub tsi : pieces.header.tsi ≡ p.tsi
  pub toi : pieces.header.toi ≡ p.toi
  pub close : pieces.header.close_session ≡ p.close
  pub packet : IsPacket p

-- The datagram is a header and nothing else, of this session and with this flag A.
pub record SpellsControl (d : List ℕ) (tsi : ℕ) (close : Bool) : Type 0 where
  pub view : HeaderView
  pub begins : BeginsWithHeader d view []
  pub tsi_is : view.header.tsi ≡ tsi
  pub close_is : view.header.close_session ≡ close
