-- What makes bytes no compound object: when each cause is so, and which is the first.
use Rattle.std.specs.Prelude.{◌≡◌, ◌≢◌, ℕ, ◌<◌, ◌⊎◌, false, List, length}
use Rattle.wire_bytes.specs.Bytes.{are_zero}
use Rattle.meta_text.specs.Spelled.{IsFirstFault}
use Rattle.compound_object.specs.declared.fault.CompoundFault.{CompoundFault}
use Rattle.compound_object.specs.declared.fault.CompoundFault.TheVariants.{Short, Version, HeaderLength, Format, Gzip, FillNotZero, Checksum, Fields, Memory}
use Rattle.compound_object.specs.Reading.{version_in, format_in, encoding_in, header_length, body_start, metadata_in, filling_in, stated_sum, found_sum}

-- the cause is so; want of memory is none of the bytes
abbrev pub IsSo : List ℕ → CompoundFault → Type 0
IsSo object Short = length object < 8
IsSo object Version = version_in object ≢ 0
IsSo object HeaderLength = (header_length object < 8) ⊎ (length object < body_start object)
IsSo object Format = (format_in object ≢ 0) ⊎ (1 < encoding_in object)
IsSo object Gzip = encoding_in object ≡ 1
IsSo object FillNotZero = are_zero (filling_in object) ≡ false
IsSo object (Checksum stated found) = (stated ≡ stated_sum object) × (found ≡ found_sum object) × (stated ≢ found)
IsSo object (Fields fault) = IsFirstFault (metadata_in object) fault
IsSo object Memory = ⊥

-- the order of the causes
abbrev pub rank : CompoundFault → ℕ
rank Short = 1
rank Version = 2
rank HeaderLength = 3
rank Format = 4
rank Gzip = 5
rank FillNotZero = 6
rank (Checksum stated found) = 7
rank (Fields fault) = 8
rank Memory = 9

-- no cause below this rank is so
abbrev pub NoneBelow : List ℕ → ℕ → Type 0
NoneBelow object n = (cause : CompoundFault) → rank cause < n → ¬ IsSo object cause

-- the cause is so, and none before it
pub record IsFirst (object : List ℕ) (cause : CompoundFault) : Type 0 where
  pub is : IsSo object cause
  pub first : NoneBelow object (rank cause)
