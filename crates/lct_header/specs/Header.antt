-- The header of a datagram (RFC 5651, section 5.1).
use Rattle.std.specs.Prelude.{◌≡◌, ℕ, ◌*◌, ◌%◌, ◌^◌, ◌<◌, ◌≤◌, Bool, List, length}
use Rattle.byteorder.specs.Endian.{big_number}
use Rattle.lct_header.specs.Word.{FirstWord}

-- What a header says: the flags A and B, the session (TSI) and the object (TOI), each with its bits, and the codepoint.
pub record Header : Type 0 where
  pub close_session : Bool
  pub close_object : Bool
  pub tsi : ℕ
  pub tsi_bits : ℕ
  pub toi : ℕ
  pub toi_bits : ℕ
  pub codepoint : ℕ

-- What holds of each header: 0, 16, 32 or 48 bits of TSI, a multiple of 16 up to 112 of TOI, both odd multiples of
-- 16 or both even, and each number fits its bits.
pub record IsHeader (h : Header) : Type 0 where
  pub tsi_bits : h.tsi_bits ≤ 48
  pub tsi_halves : h.tsi_bits % 16 ≡ 0
  pub toi_bits : h.toi_bits ≤ 112
  pub toi_halves : h.toi_bits % 16 ≡ 0
  pub same_half : h.tsi_bits % 32 ≡ h.toi_bits % 32
  pub tsi : h.tsi < 2 ^ h.tsi_bits
  pub toi : h.toi < 2 ^ h.toi_bits
  pub codepoint : h.codepoint < 256

-- The values of a header with this first word, TSI and TOI. A number of no bytes is 0.
abbrev pub header_of : FirstWord → List ℕ → List ℕ → Header
header_of w tsi toi = record {
  close_session = w.close_session;
  close_object = w.close_object;
  tsi = big_number (length tsi) tsi;
  tsi_bits = 8 * length tsi;
  toi = big_number (length toi) toi;
  toi_bits = 8 * length toi;
  codepoint = w.codepoint;
}
