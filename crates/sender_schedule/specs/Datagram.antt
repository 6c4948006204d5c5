-- The datagram of a symbol of an object.
use Rattle.std.specs.Prelude.{ℕ, false, List}
use Rattle.oti_blocks.specs.Partition.{symbol_of}
use Rattle.oti_blocks.specs.Sent.{Sent, block_rows}
use Rattle.object_symbols.specs.SymbolRow.{symbol_row}
use Rattle.alc_packet.specs.Packet.{SymbolPacket}
use Rattle.alc_packet.specs.Writing.{written}
use Rattle.sender_plan.specs.Session.{SentObject}
use Rattle.sender_schedule.specs.declared.symbol_id.SymbolId.{SymbolId}

-- the object by its transmission information and its bytes
abbrev pub sent_of : SentObject → Sent
sent_of o = record { oti = o.oti; bytes = o.bytes }

-- the packet of a symbol: its row of bytes, and the flag A not set
abbrev pub packet : ℕ → SentObject → SymbolId → SymbolPacket
packet tsi o p = record {
  tsi = tsi;
  toi = o.toi;
  oti = o.oti;
  sbn = p.sbn;
  esi = p.esi;
  symbol = symbol_row (block_rows (sent_of o) p.sbn) (symbol_of o.oti) p.esi;
  close = false;
}

-- and that packet as it is written
unfoldable pub datagram : ℕ → SentObject → SymbolId → List ℕ
datagram tsi o p = written (packet tsi o p)
