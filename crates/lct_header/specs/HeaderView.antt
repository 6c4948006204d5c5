-- A header at the start of a datagram: how its fields are laid out (RFC 5651, section 5.1).
use Rattle.std.specs.Prelude.{◌≡◌, ℕ, ◌+◌, ◌*◌, ◌/◌, ◌<◌, ◌≤◌, List, ◌++◌, length}
use Rattle.lct_header.specs.Word.{FirstWord, SpellsWord, cci_length, tsi_length, toi_length, fixed_length}
use Rattle.lct_header.specs.Extensions.{IsArea}
use Rattle.lct_header.specs.Header.{Header, header_of}

-- A header, its length in bytes, and the area of its extensions.
pub record HeaderView : Type 0 where
  pub header : Header
  pub length : ℕ
  pub area : List ℕ

-- The bytes are the fixed fields, whatever stands in CCI, then an area up to the header's stated length, and a rest.
pub record IsLaidOut (bytes : List ℕ) (w : FirstWord) (tsi toi area rest : List ℕ) : Type 0 where
  pub word : List ℕ
  pub cci : List ℕ
  pub spells : SpellsWord word w
  pub cci_bytes : length cci ≡ cci_length w
  pub tsi_bytes : length tsi ≡ tsi_length w
  pub toi_bytes : length toi ≡ toi_length w
  pub stated : fixed_length w + length area ≡ 4 * w.words
  pub joined : bytes ≡ word ++ (cci ++ (tsi ++ (toi ++ (area ++ rest))))

-- The bytes begin with this header, and the rest follows it.
pub record BeginsWithHeader (bytes : List ℕ) (v : HeaderView) (rest : List ℕ) : Type 0 where
  pub word : FirstWord
  pub tsi : List ℕ
  pub toi : List ℕ
  pub layout : IsLaidOut bytes word tsi toi v.area rest
  pub extensions : IsArea v.area
  pub header : v.header ≡ header_of word tsi toi
  pub length : v.length ≡ 4 * word.words

-- the bytes begin with this header, whatever follows
abbrev pub StartsWithHeader : List ℕ → HeaderView → Type 0
StartsWithHeader bytes v = (rest : List ℕ) × BeginsWithHeader bytes v rest

-- What holds of each view: a CCI of one to four words and the header's numbers and area are its whole length, which is
-- at most 255 words.
pub record IsView (v : HeaderView) : Type 0 where
  pub cci : ℕ
  pub cci_words : cci < 4
  pub whole : v.length ≡ 8 + 4 * cci + v.header.tsi_bits / 8 + v.header.toi_bits / 8 + length v.area
  pub most : v.length ≤ 1020
  pub extensions : IsArea v.area
