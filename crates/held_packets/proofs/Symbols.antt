-- Rows that are encoding symbols of a session's blocks.
use Rattle.std.proofs.Common.{◌≡◌, ℕ, ◌<◌, ◌≤◌, List, get_or, Some, sym, subst, ◌∙◌, arith}
use Rattle.std.proofs.lemmas.List.{ext_get_or}
use Rattle.oti_blocks.specs.Partition.{IsSound, blocks, size_at, encoding_at, symbol_of}
use Rattle.oti_blocks.proofs.Public.{size_bounds}
use Rattle.alc_packet.specs.Packet.{SymbolPacket, IsPacket, full}
use Rattle.rs_code.specs.SourceRows.{cut, column, IsSymbolRow}
use Rattle.rs_code.proofs.Public.{symbol_unique, length-column}
use Rattle.held_packets.specs.Session.{Session, Sent, Belongs, block_rows}

-- the row is the encoding symbol of its place, of the block of an object that the session has
pub record IsSymbolAt (s : Session) (t b j : ℕ) (row : List ℕ) : Type 0 where
  pub object : Sent
  pub sent : s t ≡ Some object
  pub sound : IsSound object.oti
  pub block : b < blocks object.oti
  pub place : j < encoding_at object.oti b
  pub symbol : IsSymbolRow (block_rows object b) (symbol_of object.oti) j row

-- two rows that are one symbol are equal
pub one_row : (k size j : ℕ) (bytes row other : List ℕ) → k ≤ 255 → IsSymbolRow (cut k size bytes) size j row → IsSymbolRow (cut k size bytes) size j other → row ≡ other
one_row k size j bytes row other most is also =
    ext_get_or 0 row other (is.full ∙ sym also.full)
    (λ at less.
    let within : at < size = omega (arith, is.full) in
    symbol_unique (column (cut k size bytes) at) j (get_or row at 0) (get_or other at 0)
    (omega (arith, length-column k size at bytes, most)) (is.symbols at within) (also.symbols at within))

-- the session has one object under an identifier
pub one_object : (s : Session) (t : ℕ) (x y : Sent) → s t ≡ Some x → s t ≡ Some y → x ≡ y
one_object s t x y e f = let same : Some x ≡ Some y = sym e ∙ f in cc

-- rows of one place are equal
pub same_symbol : (s : Session) (t b j : ℕ) (row other : List ℕ) → IsSymbolAt s t b j row → IsSymbolAt s t b j other → row ≡ other
unfolding block_rows
same_symbol s t b j row other is also =
    let same = one_object s t also.object is.object also.sent is.sent in
    let bounds = size_bounds is.object.oti is.sound b is.block in
    one_row (size_at is.object.oti b) (symbol_of is.object.oti) j _ row other (omega (arith, bounds.1, is.sound.block_within, is.sound.max_n_fits)) is.symbol
    (subst (λ (x : Sent). IsSymbolRow (block_rows x b) (symbol_of x.oti) j other) same also.symbol)

-- the filled symbol of a packet that belongs to the session
pub symbol_of_packet : (s : Session) (p : SymbolPacket) → IsPacket p → Belongs s p → IsSymbolAt s p.toi p.sbn p.esi (full p)
symbol_of_packet s p packet belongs = record {
  object = belongs.object;
  sent = belongs.sent;
  sound = subst IsSound belongs.information packet.sound;
  block = subst (λ o. p.sbn < blocks o) belongs.information packet.block;
  place = subst (λ o. p.esi < encoding_at o p.sbn) belongs.information packet.place;
  symbol = belongs.symbol;
}
