-- The layout of a compound object, this project's own after RFC 6968, section 3, in outline:
--
--     0                   1                   2                   3
--     0 1 2 3 4 5 6 7 8 9 0 1 2 3 4 5 6 7 8 9 0 1 2 3 4 5 6 7 8 9 0 1
--    +---+-------+-+-+-------+-------+-------------------------------+
--    | V | rsvd  |G|C| MDFmt | MDEnc |           checksum            |
--    +---+-------+-+-+-------+-------+-------------------------------+
--    |                         header length                         |
--    +---------------------------------------------------------------+
--    |               metadata, and zeros to a whole word             |
--    +---------------------------------------------------------------+
--    |                              body                             |
--    +---------------------------------------------------------------+
use Rattle.std.specs.Prelude.{◌≡◌, ℕ, ◌+◌, ◌-◌, ◌*◌, ◌/◌, ◌%◌, ◌^◌, ◌<◌, ◌==◌, Bool, if◌then◌else◌, List, [], ◌∷◌, ◌++◌, length, replicate}
use Rattle.byteorder.specs.Endian.{big_bytes}
use Rattle.meta_text.specs.Fields.{Pair, written}
use Rattle.meta_text.specs.Spelled.{SpellsFields}
use Rattle.compound_object.specs.Checksum.{checksum}

-- a length rounded up to a multiple of four
abbrev pub rounded : ℕ → ℕ
rounded n = (n + 3) / 4 * 4

-- the header's length, of metadata so long; the filling doesn't count
abbrev pub header_length_of : List ℕ → ℕ
header_length_of metadata = 8 + length metadata

-- first byte (V, reserved bits, G and C), MDFmt and MDEnc 0, checksum, header length, metadata, filling, body
abbrev pub layout : ℕ → ℕ → List ℕ → List ℕ → List ℕ
layout first sum metadata body =
    first ∷ 0 ∷ big_bytes 2 sum ++ big_bytes 4 (header_length_of metadata) ++ metadata
    ++ replicate (rounded (header_length_of metadata) - header_length_of metadata) 0 ++ body

-- what the checksum covers, with its own field as 0: the whole object where G is 1, else all but the body
abbrev pub summed : ℕ → List ℕ → List ℕ → List ℕ
summed first metadata body = layout first 0 metadata (if first / 2 % 2 == 1 then body else [])

-- The bytes are an object with these parts: version 0, whatever the reserved bits and G are, metadata that
-- says the fields, and the right checksum.
pub record SpellsObject (object : List ℕ) (descriptor : Bool) (fields : List Pair) (body : List ℕ) : Type 0 where
  pub first : ℕ
  pub sum : ℕ
  pub metadata : List ℕ
  pub joined : object ≡ layout first sum metadata body
  pub version : first / 64 ≡ 0
  pub kind : descriptor ≡ (first % 2 == 1)
  pub says : SpellsFields metadata fields
  pub fits : header_length_of metadata < 2 ^ 32
  pub checked : sum ≡ checksum (summed first metadata body)

-- the first byte that the writer gives: version 0, reserved 0, G 1, and C as told
abbrev pub first_byte : Bool → ℕ
first_byte descriptor = if descriptor then 3 else 2

-- the one spelling that the writer gives
abbrev pub object_bytes : Bool → List Pair → List ℕ → List ℕ
object_bytes descriptor fields body =
    layout (first_byte descriptor) (checksum (layout (first_byte descriptor) 0 (written fields) body)) (written fields) body
