-- What a packet has to do with the session that is sent.
use Rattle.std.specs.Prelude.{◌≡◌, ℕ, ◌<◌, false, List, Some}
use Rattle.oti_blocks.specs.Partition.{blocks, encoding_at, symbol_of}
use Rattle.oti_blocks.specs.Sent.{block_rows}
use Rattle.rs_code.specs.SourceRows.{IsSymbolRow}
use Rattle.alc_packet.specs.Packet.{SymbolPacket, full}
use Rattle.alc_packet.specs.Datagram.{Spells}
use Rattle.sender_plan.specs.Session.{Session, SentObject, HasObject, object_of}
use Rattle.sender_schedule.specs.Datagram.{sent_of}

-- The packet is one of the session: it is of one of its objects, with that object's transmission information, and its
-- symbol, filled with zeros, is the symbol of its number and block in that object.
pub record IsSentOf (s : Session) (p : SymbolPacket) : Type 0 where
  pub tsi : p.tsi ≡ s.tsi
  pub toi : HasObject s p.toi
  pub object : SentObject
  pub known : object_of s p.toi ≡ Some object
  pub information : p.oti ≡ object.oti
  pub block : p.sbn < blocks p.oti
  pub place : p.esi < encoding_at p.oti p.sbn
  pub symbol : IsSymbolRow (block_rows (sent_of object) p.sbn) (symbol_of p.oti) p.esi (full p)
  pub close : p.close ≡ false

-- the datagram spells a packet of the session
pub record Belongs (s : Session) (d : List ℕ) : Type 0 where
  pub packet : SymbolPacket
  pub spells : Spells d packet
  pub sent : IsSentOf s packet
