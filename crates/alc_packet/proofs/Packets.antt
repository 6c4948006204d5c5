-- A packet's values and what they fit.
use Rattle.std.proofs.Common.{◌≡◌, ℕ, ◌^◌, ◌<◌, Bool, List, refl, arith}
use Rattle.std.proofs.Math.Nat.{pow-le-pow_right}
use Rattle.lct_header.specs.Header.{Header, IsHeader}
use Rattle.oti_blocks.specs.Partition.{ObjectInformation}
use Rattle.oti_blocks.proofs.Public.{encoding_at_bounds, few_blocks}
use Rattle.alc_packet.specs.Packet.{SymbolPacket, IsPacket}

-- a packet by its parts
pub made : (p : SymbolPacket) (tsi toi : ℕ) (oti : ObjectInformation) (sbn esi : ℕ) (symbol : List ℕ) (close : Bool)
    → tsi ≡ p.tsi → toi ≡ p.toi → oti ≡ p.oti → sbn ≡ p.sbn → esi ≡ p.esi → symbol ≡ p.symbol → close ≡ p.close
    → ◌≡◌ {A = SymbolPacket} (record { tsi = tsi; toi = toi; oti = oti; sbn = sbn; esi = esi; symbol = symbol; close = close }) p
made p tsi toi oti sbn esi symbol close a b c d e f g = rw (a, b, c, d, e, f, g) refl

-- the places of a packet fit the fields of the payload ID
pub places_fit : (p : SymbolPacket) → IsPacket p → (p.sbn < 256 ^ 3) × (p.esi < 256)
places_fit p is =
    let encoding = encoding_at_bounds p.oti is.sound p.sbn is.block in
    (omega (arith, is.block, few_blocks p.oti is.sound), omega (arith, is.place, encoding.1, is.sound.max_n_fits))

-- the numbers of a header are those that a packet can have
pub numbers_fit : (h : Header) → IsHeader h → (h.tsi < 2 ^ 48) × (h.toi < 2 ^ 112)
numbers_fit h is =
    let tsi = pow-le-pow_right {n = 2} (omega arith) is.tsi_bits in
    let toi = pow-le-pow_right {n = 2} (omega arith) is.toi_bits in
    (omega (arith, is.tsi, tsi), omega (arith, is.toi, toi))
