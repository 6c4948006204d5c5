-- The numbers of a header and the bytes that they fit.
use Rattle.std.proofs.Common.{◌≡◌, ℕ, ◌*◌, ◌/◌, ◌%◌, ◌^◌, ◌<◌, Bool, List, length, arith}
use Rattle.byteorder.specs.Endian.{big_number}
use Rattle.wire_bytes.specs.Bytes.{AreBytes}
use Rattle.wire_bytes.proofs.Public.{bytes_bits, number_fits}
use Rattle.lct_header.specs.Word.{FirstWord, FitsWord, tsi_length, toi_length}
use Rattle.lct_header.specs.Header.{IsHeader}

-- a number of whole bytes' bits fits the bytes
pub fits_bytes : (n bits : ℕ) → bits % 16 ≡ 0 → n < 2 ^ bits → n < 256 ^ (bits / 8)
fits_bytes n bits whole lt =
    let same : 8 * (bits / 8) ≡ bits = omega arith in
    rw (bytes_bits (bits / 8), same) lt

-- fields of the stated lengths make a header
pub fields_are_header : (w : FirstWord) (close_session close_object : Bool) (tsi toi : List ℕ) (codepoint : ℕ)
    → FitsWord w → length tsi ≡ tsi_length w → length toi ≡ toi_length w → AreBytes tsi → AreBytes toi → codepoint < 256
    → IsHeader (record {
      close_session = close_session;
      close_object = close_object;
      tsi = big_number (length tsi) tsi;
      tsi_bits =
          8 * length tsi;
      toi = big_number (length toi) toi;
      toi_bits = 8 * length toi;
      codepoint = codepoint;
    })
fields_are_header w close_session close_object tsi toi codepoint fits a b tsi_fits toi_fits codepoint_fits = record {
  tsi_bits = omega (arith, fits.s, fits.h);
  tsi_halves = omega arith;
  toi_bits = omega (arith, fits.o, fits.h);
  toi_halves = omega arith;
  same_half = omega arith;
  tsi = number_fits tsi tsi_fits;
  toi = number_fits toi toi_fits;
  codepoint = codepoint_fits;
}
