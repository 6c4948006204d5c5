-- A packet with one encoding symbol (RFC 5775; RFC 5510, section 4).
use Rattle.std.specs.Prelude.{◌≡◌, ℕ, ◌+◌, ◌^◌, ◌<◌, Bool, List, length, drop, ◌⊎◌, All}
use Rattle.wire_bytes.specs.Bytes.{zero_filled}
use Rattle.oti_blocks.specs.Partition.{ObjectInformation, IsSound, blocks, size_at, encoding_at, last_length, symbol_of}

-- What a packet says: its session (TSI) and its object (TOI), the object's transmission information, the
-- symbol's block (SBN) and place there (ESI), the symbol's bytes, and whether it closes the session.
pub record SymbolPacket : Type 0 where
  pub tsi : ℕ
  pub toi : ℕ
  pub oti : ObjectInformation
  pub sbn : ℕ
  pub esi : ℕ
  pub symbol : List ℕ
  pub close : Bool

-- its symbol is the last source symbol of the object
pub record IsLastSource (p : SymbolPacket) : Type 0 where
  pub block : p.sbn + 1 ≡ blocks p.oti
  pub place : p.esi + 1 ≡ size_at p.oti p.sbn

-- the symbol is whole, and what the object doesn't fill of it is zero
pub record HasWholeSymbol (p : SymbolPacket) : Type 0 where
  pub whole : length p.symbol ≡ symbol_of p.oti
  pub filled : IsLastSource p → All (λ x. x ≡ 0) (drop (last_length p.oti) p.symbol)

-- the symbol is the object's last and ends where the object ends
pub record HasCutSymbol (p : SymbolPacket) : Type 0 where
  pub last : IsLastSource p
  pub cut : length p.symbol ≡ last_length p.oti

-- what holds of each packet
pub record IsPacket (p : SymbolPacket) : Type 0 where
  pub tsi_fits : p.tsi < 2 ^ 48
  pub toi_fits : p.toi < 2 ^ 112
  pub sound : IsSound p.oti
  pub block : p.sbn < blocks p.oti
  pub place : p.esi < encoding_at p.oti p.sbn
  pub symbol : HasWholeSymbol p ⊎ HasCutSymbol p

-- the symbol, filled with zeros
unfoldable pub full : SymbolPacket → List ℕ
full p = zero_filled (symbol_of p.oti) p.symbol
