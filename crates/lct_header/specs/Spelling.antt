-- A header as it is written (RFC 5651, section 5.1).
use Rattle.std.specs.Prelude.{ℕ, ◌+◌, ◌/◌, ◌%◌, List, [], ◌∷◌, ◌++◌, length}
use Rattle.byteorder.specs.Endian.{big_bytes}
use Rattle.lct_header.specs.Word.{FirstWord, word_bytes}
use Rattle.lct_header.specs.Header.{Header}

-- the first word of a header with an area of this length
abbrev pub word_of : Header → ℕ → FirstWord
word_of h area = record {
  c = 0;
  s = h.tsi_bits / 32;
  o = h.toi_bits / 32;
  h = h.tsi_bits / 16 % 2;
  close_session = h.close_session;
  close_object = h.close_object;
  words = (8 + h.tsi_bits / 8 + h.toi_bits / 8 + area) / 4;
  codepoint = h.codepoint;
}

-- the length in bytes of a header that is written
abbrev pub written_length : Header → List ℕ → ℕ
written_length h area = 8 + h.tsi_bits / 8 + h.toi_bits / 8 + length area

-- The header as it is written: PSI, the reserved bits and four bytes of CCI are zero.
unfoldable pub spelling : Header → List ℕ → List ℕ
spelling h area =
    word_bytes (word_of h (length area)) 0 0 ++ (0 ∷ 0 ∷ 0 ∷ 0 ∷ []) ++ big_bytes (h.tsi_bits / 8) h.tsi ++ big_bytes (h.toi_bits / 8) h.toi ++ area
