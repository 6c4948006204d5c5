-- What is written begins with its header.
use Rattle.std.proofs.Common.{◌≡◌, ℕ, ◌+◌, ◌*◌, ◌/◌, ◌%◌, ◌≤◌, List, [], ◌∷◌, ◌++◌, length, refl, ◌∙◌, append_assoc, arith}
use Rattle.byteorder.specs.Endian.{big_bytes}
use Rattle.byteorder.specs.Numbers.{length-bytes_high_first}
use Rattle.wire_bytes.proofs.Public.{number_again}
use Rattle.lct_header.specs.Extensions.{IsArea}
use Rattle.lct_header.specs.Word.{FitsWord, word_bytes, tsi_length, toi_length}
use Rattle.lct_header.specs.Header.{Header, IsHeader}
use Rattle.lct_header.specs.HeaderView.{BeginsWithHeader}
use Rattle.lct_header.specs.Spelling.{word_of, written_length, spelling}
use Rattle.lct_header.proofs.Numbers.{fits_bytes}
use Rattle.lct_header.proofs.Splitting.{area_words}

-- a header by its parts
made : (h : Header) (tsi tsi_bits toi toi_bits : ℕ) → tsi ≡ h.tsi → tsi_bits ≡ h.tsi_bits → toi ≡ h.toi → toi_bits ≡ h.toi_bits
    → ◌≡◌ {A = Header} h (record
    { close_session = h.close_session; close_object = h.close_object; tsi = tsi; tsi_bits = tsi_bits; toi = toi; toi_bits = toi_bits; codepoint = h.codepoint })
made h tsi tsi_bits toi toi_bits a b d e = rw (a, b, d, e) refl

-- the lengths that the written word states
record HasWidths (h : Header) (area : ℕ) : Type 0 where
  pub tsi : h.tsi_bits / 8 ≡ tsi_length (word_of h area)
  pub toi : h.toi_bits / 8 ≡ toi_length (word_of h area)
  pub all : 8 + h.tsi_bits / 8 + h.toi_bits / 8 + area ≡ 4 * (word_of h area).words

-- which are those of its fields
widths : (h : Header) (area : ℕ) → IsHeader h → area % 4 ≡ 0 → HasWidths h area
widths h area is words = record {
  tsi = omega (arith, is.tsi_halves);
  toi = omega (arith, is.toi_halves, is.same_half, is.tsi_halves);
  all = omega (arith, is.tsi_halves, is.toi_halves, is.same_half, words);
}

-- each field of the written word fits its bits
written_word : (h : Header) (area : ℕ) → IsHeader h → 8 + h.tsi_bits / 8 + h.toi_bits / 8 + area ≤ 1020 → FitsWord (word_of h area)
written_word h area is most = record {
  c = omega arith;
  s = omega (arith, is.tsi_bits);
  o = omega (arith, is.toi_bits);
  h = omega arith;
  words = omega (arith, most);
  codepoint = is.codepoint;
}

-- what is written begins with the header and the area
pub written_is_read : (h : Header) (area rest : List ℕ) → IsHeader h → IsArea area → written_length h area ≤ 1020
    → BeginsWithHeader (spelling h area ++ rest) (record { header = h; length = written_length h area; area = area }) rest
unfolding spelling
written_is_read h area rest is are most =
    let w = word_of h (length area) in
    let tsi = big_bytes (h.tsi_bits / 8) h.tsi in
    let toi = big_bytes (h.toi_bits / 8) h.toi in
    let tsi_len : length tsi ≡ h.tsi_bits / 8 = length-bytes_high_first (h.tsi_bits / 8) h.tsi in
    let toi_len : length toi ≡ h.toi_bits / 8 = length-bytes_high_first (h.toi_bits / 8) h.toi in
    let wide = widths h (length area) is (area_words are.0 area are.1) in
    record {
      word = w;
      tsi = tsi;
      toi = toi;
      layout = record {
        word = word_bytes w 0 0;
        cci = 0 ∷ 0 ∷ 0 ∷ 0 ∷ [];
        spells = record { psi = 0; reserved = 0; psi_fits = omega arith; reserved_fits = omega arith; fits = written_word h (length area) is most; spelling = refl };
        cci_bytes = refl;
        tsi_bytes = tsi_len ∙ wide.tsi;
        toi_bytes = toi_len ∙ wide.toi;
        stated = omega (arith, wide.tsi, wide.toi, wide.all);
        joined = simp append_assoc;
      };
      extensions = are;
      header = made h _ _ _ _
          (number_again (h.tsi_bits / 8) h.tsi (fits_bytes h.tsi h.tsi_bits is.tsi_halves is.tsi))
          (omega (arith, tsi_len, is.tsi_halves))
          (number_again (h.toi_bits / 8) h.toi (fits_bytes h.toi h.toi_bits is.toi_halves is.toi))
          (omega (arith, toi_len, is.toi_halves));
      length = wide.all;
    }
