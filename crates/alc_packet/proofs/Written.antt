-- What is written spells its packet.
use Rattle.std.proofs.Common.{◌≡◌, ℕ, ◌%◌, ◌^◌, ◌<◌, ◌≤◌, Bool, true, false, cond, [], ◌∷◌, Option, Some, refl, arith, inl}
use Rattle.std.specs.Prelude.{unwrap_or, nat_lt}
use Rattle.std.proofs.lemmas.Bool.{and_parts, ltb-true}
use Rattle.lct_header.specs.Extension.{Extension}
use Rattle.lct_header.specs.Extensions.{AreExtensions}
use Rattle.lct_header.specs.Header.{IsHeader}
use Rattle.lct_header.specs.Spelling.{written_length}
use Rattle.lct_header.proofs.Public.{written_is_read}
use Rattle.oti_blocks.specs.Partition.{ObjectInformation}
use Rattle.oti_blocks.specs.Wire.{fti_type, fti_content, fti}
use Rattle.alc_packet.specs.Packet.{SymbolPacket, IsPacket}
use Rattle.alc_packet.specs.Datagram.{payload_of, Spells}
use Rattle.alc_packet.specs.Writing.{fits, least_widths, header_of, written}

-- ---- the widths

-- bits of TSI and TOI that a header can have, and in which these numbers fit
record Suit (tsi toi : ℕ) (w : ℕ × ℕ) : Type 0 where
  pub tsi_bits : w.0 ≤ 48
  pub tsi_halves : w.0 % 16 ≡ 0
  pub toi_some : 16 ≤ w.1
  pub toi_bits : w.1 ≤ 112
  pub toi_halves : w.1 % 16 ≡ 0
  pub same_half : w.0 % 32 ≡ w.1 % 32
  pub tsi_fits : tsi < 2 ^ w.0
  pub toi_fits : toi < 2 ^ w.1

suit_of : (tsi toi a b : ℕ) → a ≤ 48 → a % 16 ≡ 0 → 16 ≤ b → b ≤ 112 → b % 16 ≡ 0 → a % 32 ≡ b % 32 → fits tsi toi (a, b) ≡ true → Suit tsi toi (a, b)
suit_of tsi toi a b tsi_bits tsi_halves some toi_bits toi_halves same e =
    let both = and_parts (nat_lt tsi (2 ^ a)) (nat_lt toi (2 ^ b)) e in
    record {
      tsi_bits = tsi_bits;
      tsi_halves = tsi_halves;
      toi_some = some;
      toi_bits = toi_bits;
      toi_halves =
          toi_halves;
      same_half = same;
      tsi_fits = ltb-true _ _ both.0;
      toi_fits = ltb-true _ _ both.1;
    }

-- the first of several, each of which suits where it fits
first_suits : (tsi toi : ℕ) (b : Bool) (w otherwise : ℕ × ℕ) (o : Option (ℕ × ℕ)) → (b ≡ true → Suit tsi toi w)
    → Suit tsi toi (unwrap_or o otherwise) → Suit tsi toi (unwrap_or (cond b (Some w) o) otherwise)
first_suits tsi toi true w otherwise o here later = here refl
first_suits tsi toi false w otherwise o here later = later

least_suits : (tsi toi : ℕ) → tsi < 2 ^ 48 → toi < 2 ^ 112 → Suit tsi toi (least_widths tsi toi)
unfolding least_widths
least_suits tsi toi tsi_fits toi_fits =
    first_suits tsi toi (fits tsi toi (32, 32)) (32, 32) (48, 112) _ (suit_of tsi toi 32 32 (omega arith) refl (omega arith) (omega arith) refl refl)
    (first_suits tsi toi (fits tsi toi (32, 64)) (32, 64) (48, 112) _ (suit_of tsi toi 32 64 (omega arith) refl (omega arith) (omega arith) refl refl)
    (first_suits tsi toi (fits tsi toi (32, 96)) (32, 96) (48, 112) _ (suit_of tsi toi 32 96 (omega arith) refl (omega arith) (omega arith) refl refl)
    (first_suits tsi toi (fits tsi toi (48, 48)) (48, 48) (48, 112) _ (suit_of tsi toi 48 48 (omega arith) refl (omega arith) (omega arith) refl refl)
    (first_suits tsi toi (fits tsi toi (48, 80)) (48, 80) (48, 112) _ (suit_of tsi toi 48 80 (omega arith) refl (omega arith) (omega arith) refl refl)
    (first_suits tsi toi (fits tsi toi (48, 112)) (48, 112) (48, 112) _ (suit_of tsi toi 48 112 (omega arith) refl (omega arith) (omega arith) refl refl)
    (record {
      tsi_bits = omega arith;
      tsi_halves = refl;
      toi_some = omega arith;
      toi_bits =
          omega arith;
      toi_halves = refl;
      same_half = refl;
      tsi_fits = tsi_fits;
      toi_fits = toi_fits;
    }))))))

-- the header of a packet is one
pub header_suits : (p : SymbolPacket) → IsPacket p → IsHeader (header_of p)
header_suits p is =
    let suit = least_suits p.tsi p.toi is.tsi_fits is.toi_fits in
    record {
      tsi_bits = suit.tsi_bits;
      tsi_halves = suit.tsi_halves;
      toi_bits = suit.toi_bits;
      toi_halves =
          suit.toi_halves;
      same_half = suit.same_half;
      tsi = suit.tsi_fits;
      toi = suit.toi_fits;
      codepoint = omega arith;
    }

-- ---- the datagram

-- EXT_FTI is an area of one extension
pub fti_area : (o : ObjectInformation) → AreExtensions (fti o) (record { het = fti_type; content = fti_content o } ∷ [])
fti_area o = (fti o, [], inl (record { hel = 3; low = omega arith; some = omega arith; spelling = refl; whole = refl }), refl, refl)

pub written_spells : (p : SymbolPacket) → IsPacket p → Spells (written p) p
written_spells p is =
    let suit = least_suits p.tsi p.toi is.tsi_fits is.toi_fits in
    let extension : Extension = record { het = fti_type; content = fti_content p.oti } in
    let short : written_length (header_of p) (fti p.oti) ≤ 1020 = omega (arith, suit.tsi_bits, suit.toi_bits) in
    record {
      pieces = record { header = header_of p; ftis = fti_content p.oti ∷ []; payload = payload_of p };
      are = record {
        view = record { header = header_of p; length = written_length (header_of p) (fti p.oti); area = fti p.oti };
        extensions = extension ∷ [];
        begins = written_is_read (header_of p) (fti p.oti) (payload_of p) (header_suits p is) (extension ∷ [], fti_area p.oti) short;
        listed = fti_area p.oti;
        header = refl;
        ftis = refl;
      };
      scheme = refl;
      some_toi = suit.toi_some;
      information = refl;
      payload = refl;
      tsi = refl;
      toi = refl;
      close = refl;
      packet = is;
    }
