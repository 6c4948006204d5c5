-- The first word of a header (RFC 5651, section 5.1).
use Rattle.std.specs.Prelude.{◌≡◌, ℕ, ◌+◌, ◌*◌, ◌/◌, ◌<◌, Bool, if◌then◌else◌, List, [], ◌∷◌, slice_index}

-- What the first word says: the bits C, S, O and H, on which the lengths of CCI, TSI and TOI stand, the flags
-- A (close session) and B (close object), the header's length in words (HDR_LEN) and the codepoint.
pub record FirstWord : Type 0 where
  pub c : ℕ
  pub s : ℕ
  pub o : ℕ
  pub h : ℕ
  pub close_session : Bool
  pub close_object : Bool
  pub words : ℕ
  pub codepoint : ℕ

-- each field fits its bits
pub record FitsWord (w : FirstWord) : Type 0 where
  pub c : w.c < 4
  pub s : w.s < 2
  pub o : w.o < 4
  pub h : w.h < 2
  pub words : w.words < 256
  pub codepoint : w.codepoint < 256

abbrev pub bit : Bool → ℕ
bit flag = if flag then 1 else 0

-- V = 1 in 4 bits, C in 2, PSI in 2
abbrev pub byte_0 : FirstWord → ℕ → ℕ
byte_0 w psi = 16 + 4 * w.c + psi

-- S in 1 bit, O in 2, H in 1, two reserved, A and B in 1 each
abbrev pub byte_1 : FirstWord → ℕ → ℕ
byte_1 w reserved = 128 * w.s + 32 * w.o + 16 * w.h + 4 * reserved + 2 * bit w.close_session + bit w.close_object

-- the four bytes of the word, with these bits in PSI and in the reserved place
abbrev pub word_bytes : FirstWord → ℕ → ℕ → List ℕ
word_bytes w psi reserved = byte_0 w psi ∷ byte_1 w reserved ∷ w.words ∷ w.codepoint ∷ []

-- the bytes are the word, whatever stands in PSI and in the reserved bits
pub record SpellsWord (bytes : List ℕ) (w : FirstWord) : Type 0 where
  pub psi : ℕ
  pub reserved : ℕ
  pub psi_fits : psi < 4
  pub reserved_fits : reserved < 4
  pub fits : FitsWord w
  pub spelling : bytes ≡ word_bytes w psi reserved

-- the lengths in bytes that the word states: CCI of 32 * (C + 1) bits, TSI of 32 * S + 16 * H, TOI of 32 * O + 16 * H
abbrev pub cci_length : FirstWord → ℕ
cci_length w = 4 * (w.c + 1)

abbrev pub tsi_length : FirstWord → ℕ
tsi_length w = 4 * w.s + 2 * w.h

abbrev pub toi_length : FirstWord → ℕ
toi_length w = 4 * w.o + 2 * w.h

-- all of the fixed fields: the first word, CCI, TSI and TOI
abbrev pub fixed_length : FirstWord → ℕ
fixed_length w = 4 + cci_length w + tsi_length w + toi_length w

-- V: the upper four bits of the first byte
abbrev pub version : List ℕ → ℕ
version bytes = slice_index bytes 0 / 16
