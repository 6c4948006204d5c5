-- The packets that are sent are packets, and what they are written as.
use Rattle.std.proofs.Common.{◌≡◌, ℕ, ◌+◌, ◌-◌, ◌*◌, ◌/◌, ◌^◌, ◌<◌, ◌≤◌, List, length, get_or, drop, ap, ◌∙◌, arith, inl, get_or-drop}
use Rattle.std.proofs.lemmas.List.{get_or_past, get_or_default, length-append, length-drop}
use Rattle.byteorder.specs.Numbers.{length-bytes_high_first}
use Rattle.oti_blocks.specs.Partition.{ObjectInformation, IsSound, sources, blocks, size_at, start_at, last_length, length_of, symbol_of}
use Rattle.oti_blocks.specs.Sent.{Sent, block_rows}
use Rattle.oti_blocks.proofs.Public.{start-next, start_last, last_length_bounds}
use Rattle.rs_code.specs.SourceRows.{column}
use Rattle.object_symbols.specs.SymbolRow.{symbol_row}
use Rattle.object_symbols.proofs.Public.{length-block_rows, few_rows, get_or-block_rows, block_rows_bytes, symbol_of_source, length-symbol_row, get_or-symbol_row}
use Rattle.lct_header.specs.Header.{Header}
use Rattle.lct_header.specs.Spelling.{spelling}
use Rattle.oti_blocks.specs.Wire.{fti}
use Rattle.alc_packet.specs.Packet.{SymbolPacket, IsPacket}
use Rattle.alc_packet.specs.Datagram.{payload_of}
use Rattle.alc_packet.specs.Writing.{header_of}
use Rattle.alc_packet.proofs.Public.{header_suits}
use Rattle.sender_plan.specs.Session.{SentObject}
use Rattle.sender_schedule.specs.SymbolIds.{IsSymbolId}
use Rattle.sender_schedule.specs.Datagram.{sent_of, packet, datagram}
use Rattle.sender_schedule.specs.Inner.Sending.{CanBeSent}
use Rattle.sender_schedule.specs.declared.symbol_id.SymbolId.{SymbolId}

-- the last source symbol of the last block is the object's last
last_source : (o : ObjectInformation) (b k : ℕ) → IsSound o → b + 1 ≡ blocks o → k + 1 ≡ size_at o b → start_at o b + k ≡ sources o - 1
last_source o b k sound block place =
    let next = start-next o sound b (omega arith) in
    let end : start_at o (b + 1) ≡ sources o = ap (start_at o) block ∙ start_last o sound in
    omega (arith, next, end, place)

-- behind the object's end its last source symbol has no byte of the object
past_end : (o : ObjectInformation) (at : ℕ) → IsSound o → last_length o ≤ at → length_of o ≤ (sources o - 1) * symbol_of o + at
unfolding last_length
past_end o at sound le = omega (arith, le, (last_length_bounds o sound).0)

-- so it is zero there
last_zero : (o : SentObject) (p : SymbolId) (at : ℕ) → CanBeSent o → p.sbn + 1 ≡ blocks o.oti → p.esi + 1 ≡ size_at o.oti p.sbn
    → last_length o.oti ≤ at → at < symbol_of o.oti → get_or (symbol_row (block_rows (sent_of o) p.sbn) (symbol_of o.oti) p.esi) at 0 ≡ 0
last_zero o p at can block place past within =
    let x : Sent = sent_of o in
    let len = length-block_rows (sent_of o) p.sbn at in
    let few = few_rows x p.sbn can.sent (omega arith) in
    let last = last_source o.oti p.sbn p.esi can.sent.sound block place in
    get_or-symbol_row (block_rows (sent_of o) p.sbn) (symbol_of o.oti) p.esi at within
    ∙ symbol_of_source (column (block_rows (sent_of o) p.sbn) at) p.esi (block_rows_bytes x p.sbn at can.sent within)
    (omega (arith, len, few)) (omega (arith, len, place))
    ∙ get_or-block_rows (sent_of o) p.sbn p.esi at (omega arith) within
    ∙ ap (λ n. get_or o.bytes (n * symbol_of o.oti + at) 0) last
    ∙ get_or_past o.bytes ((sources o.oti - 1) * symbol_of o.oti + at) 0 (omega (arith, can.sent.long, past_end o.oti at can.sent.sound past))

-- the packet of a symbol is one
pub packet_is : (tsi : ℕ) (o : SentObject) (p : SymbolId) → tsi < 2 ^ 32 → CanBeSent o → IsSymbolId o.oti p → IsPacket (packet tsi o p)
packet_is tsi o p tsi_fits can is = record {
  tsi_fits = omega arith;
  toi_fits = can.toi;
  sound = can.sent.sound;
  block = is.sbn;
  place = is.esi;
  symbol = inl (record {
    whole = len;
    filled = λ last i d less.
        let row = symbol_row (block_rows (sent_of o) p.sbn) (symbol_of o.oti) p.esi in
        let long = length-drop (last_length o.oti) row in
        get_or_default (drop (last_length o.oti) row) i d 0 less
        ∙ get_or-drop (last_length o.oti) row i 0
        ∙ last_zero o p (last_length o.oti + i) can last.block last.place (omega arith) (omega (arith, less, long, len));
  });
} where
  len : length (symbol_row (block_rows (sent_of o) p.sbn) (symbol_of o.oti) p.esi) ≡ symbol_of o.oti
  len = length-symbol_row (block_rows (sent_of o) p.sbn) (symbol_of o.oti) p.esi

-- ---- the length of a datagram

length_spelling : (h : Header) (area : List ℕ) → length (spelling h area) ≡ 8 + h.tsi_bits / 8 + h.toi_bits / 8 + length area
unfolding spelling
length_spelling h area = simp (length-append, length-bytes_high_first) (omega arith)

length_fti : (o : ObjectInformation) → length (fti o) ≡ 12
length_fti o = simp (length-append, length-bytes_high_first) (omega arith)

length_payload : (p : SymbolPacket) → length (payload_of p) ≡ 4 + length p.symbol
length_payload p = simp (length-append, length-bytes_high_first) (omega arith)

pub datagram_short : (tsi : ℕ) (o : SentObject) (p : SymbolId) → IsPacket (packet tsi o p) → symbol_of o.oti ≤ 65475 → length (datagram tsi o p) ≤ 65535
unfolding datagram
datagram_short tsi o p is most =
    let q : SymbolPacket = packet tsi o p in
    let header = header_suits q is in
    omega (
      arith,
      length-append (spelling (header_of q) (fti o.oti)) (payload_of q),
      length_spelling (header_of q) (fti o.oti),
      length_fti o.oti,
      length_payload q,
      length-symbol_row (block_rows (sent_of o) p.sbn) (symbol_of o.oti) p.esi,
      header.tsi_bits,
      header.toi_bits,
      most,
    )
