-- Sessions and the packets that belong to them (RFC 5651, section 2; RFC 5510, section 8).
use Rattle.std.specs.Prelude.{◌≡◌, ℕ, List, Option, Some, All}
use Rattle.oti_blocks.specs.Partition.{symbol_of}
pub use Rattle.oti_blocks.specs.Sent.{Sent, IsSent}
unfoldable pub use Rattle.oti_blocks.specs.Sent.{filled, block_rows}
use Rattle.alc_packet.specs.Packet.{SymbolPacket, IsPacket, full}
use Rattle.rs_code.specs.SourceRows.{IsSymbolRow}

-- a session: its objects by their identifiers, so that one identifier is one object
abbrev pub Session : Type 0
Session = ℕ → Option Sent

abbrev pub IsSession : Session → Type 0
IsSession s = (t : ℕ) (x : Sent) → s t ≡ Some x → IsSent x

-- The packet carries its object's transmission information, and its filled symbol is the encoding symbol of its
-- place, of its block's source rows.
pub record Belongs (s : Session) (p : SymbolPacket) : Type 0 where
  pub object : Sent
  pub sent : s p.toi ≡ Some object
  pub information : p.oti ≡ object.oti
  pub symbol : IsSymbolRow (block_rows object p.sbn) (symbol_of object.oti) p.esi (full p)

pub record IsOf (s : Session) (p : SymbolPacket) : Type 0 where
  pub packet : IsPacket p
  pub belongs : Belongs s p

-- each packet is one of the session
abbrev pub AreOf : Session → List SymbolPacket → Type 0
AreOf s ps = All (IsOf s) ps
