-- The transmission information in a header, as EXT_FTI of FEC Encoding ID 5 (RFC 5510, section 4.2.2).
use Rattle.std.specs.Prelude.{ℕ, List, [], ◌∷◌, ◌++◌, drop, slice_index}
use Rattle.byteorder.specs.Endian.{big_number, big_bytes}
use Rattle.oti_blocks.specs.Scheme.{ObjectInformation}

-- L in 48 bits, E in 16, B in 8, max_n in 8
abbrev pub fti_content : ObjectInformation → List ℕ
fti_content o = big_bytes 6 o.length ++ big_bytes 2 o.symbol ++ big_bytes 1 o.max_block ++ big_bytes 1 o.max_n

-- the extension's type (HET)
abbrev pub fti_type : ℕ
fti_type = 64

-- the type, and the length (HEL) of three words of 32 bits
abbrev pub fti_start : List ℕ
fti_start = fti_type ∷ 3 ∷ []

-- the whole extension
abbrev pub fti : ObjectInformation → List ℕ
fti o = fti_start ++ fti_content o

-- the values in ten bytes
abbrev pub stated : List ℕ → ObjectInformation
stated content = record { length = big_number 6 content; symbol = big_number 2 (drop 6 content); max_block = slice_index content 8; max_n = slice_index content 9 }
