-- What the bytes of a compound object say, or the first refusal.
use Rattle.std.specs.Prelude.{◌≡◌, ℕ, ◌-◌, ◌/◌, ◌%◌, ◌==◌, nat_lt, Bool, not, ◌||◌, if◌then◌else◌, List, [], ◌∷◌, ◌++◌, length}
use Rattle.std.specs.Prelude.{take, drop, slice_index, Option, Some, None, Result, Ok, Err}
use Rattle.byteorder.specs.Endian.{big_number}
use Rattle.wire_bytes.specs.Bytes.{are_zero}
use Rattle.wire_bytes.specs.FirstFault.{fault_when, first_fault}
use Rattle.meta_text.specs.declared.fault.FieldFault.{FieldFault}
use Rattle.meta_text.specs.Fields.{Pair}
use Rattle.meta_text.specs.Reading as fields
use Rattle.compound_object.specs.declared.fault.CompoundFault.{CompoundFault}
use Rattle.compound_object.specs.declared.fault.CompoundFault.TheVariants.{Short, Version, HeaderLength, Format, Gzip, FillNotZero, Checksum, Fields, Memory}
use Rattle.compound_object.specs.declared.compound.Compound.{Compound}
use Rattle.compound_object.specs.Checksum.{checksum}
use Rattle.compound_object.specs.Object.{rounded}

-- the fields of the header, by the drawing in Object.antt
abbrev pub version_in : List ℕ → ℕ
version_in object = slice_index object 0 / 64

-- G: the checksum covers the whole object, and not the header with its filling alone
abbrev pub covers_all : List ℕ → Bool
covers_all object = slice_index object 0 / 2 % 2 == 1

-- C: the object is a descriptor
abbrev pub is_descriptor : List ℕ → Bool
is_descriptor object = slice_index object 0 % 2 == 1

abbrev pub format_in : List ℕ → ℕ
format_in object = slice_index object 1 / 16

abbrev pub encoding_in : List ℕ → ℕ
encoding_in object = slice_index object 1 % 16

unfoldable pub stated_sum : List ℕ → ℕ
stated_sum object = big_number 2 (drop 2 object)

unfoldable pub header_length : List ℕ → ℕ
header_length object = big_number 4 (drop 4 object)

abbrev pub body_start : List ℕ → ℕ
body_start object = rounded (header_length object)

-- the parts behind the first eight bytes
abbrev pub metadata_in : List ℕ → List ℕ
metadata_in object = take (header_length object - 8) (drop 8 object)

abbrev pub filling_in : List ℕ → List ℕ
filling_in object = take (body_start object - header_length object) (drop (header_length object) object)

abbrev pub body_in : List ℕ → List ℕ
body_in object = drop (body_start object) object

-- what the checksum covers
abbrev pub covered : List ℕ → List ℕ
covered object = if covers_all object then object else take (body_start object) object

-- the bytes with 0 in the checksum's place
abbrev pub without_sum : List ℕ → List ℕ
without_sum bytes = take 2 bytes ++ 0 ∷ 0 ∷ drop 4 bytes

unfoldable pub found_sum : List ℕ → ℕ
found_sum object = checksum (without_sum (covered object))

-- what is wrong with an object before its metadata is read
unfoldable pub refusal : List ℕ → Option CompoundFault
refusal object = first_fault (
    fault_when (nat_lt (length object) 8) Short
    ∷ fault_when (not (version_in object == 0)) Version
    ∷ fault_when (nat_lt (header_length object) 8 || nat_lt (length object) (body_start object)) HeaderLength
    ∷ fault_when (not (format_in object == 0) || nat_lt 1 (encoding_in object)) Format
    ∷ fault_when (encoding_in object == 1) Gzip
    ∷ fault_when (not (are_zero (filling_in object))) FillNotZero
    ∷ fault_when (not (stated_sum object == found_sum object)) (Checksum (stated_sum object) (found_sum object))
    ∷ [])

-- an object without where it lies in memory
pub record Parts : Type 0 where
  pub descriptor : Bool
  pub fields : List Pair
  pub body : List ℕ

abbrev pub parts_of : Compound → Parts
parts_of compound = record { descriptor = compound.descriptor; fields = compound.fields; body = compound.body.now }

-- the parts of an object whose metadata says this
abbrev pub with_fields : List ℕ → Result (List Pair) FieldFault → Result Parts CompoundFault
with_fields object (Ok pairs) = Ok (record { descriptor = is_descriptor object; fields = pairs; body = body_in object })
with_fields object (Err fault) = Err (Fields fault)

abbrev pub unless : Option CompoundFault → Result Parts CompoundFault → Result Parts CompoundFault
unless None read = read
unless (Some fault) read = Err fault

unfoldable pub reading : List ℕ → Result Parts CompoundFault
reading object = unless (refusal object) (with_fields object (fields.reading (metadata_in object)))

-- an answer is what the bytes say, unless memory ran out
abbrev pub Fails : CompoundFault → Result Parts CompoundFault → Type 0
Fails Memory read = Unit {0}
Fails fault read = read ≡ Err fault

abbrev pub Gives : Result Compound CompoundFault → Result Parts CompoundFault → Type 0
Gives (Ok compound) read = read ≡ Ok (parts_of compound)
Gives (Err fault) read = Fails fault read

-- the same of the metadata alone
abbrev pub FailsFields : CompoundFault → Result (List Pair) FieldFault → Type 0
FailsFields Memory read = Unit {0}
FailsFields (Fields fault) read = read ≡ Err fault
FailsFields fault read = ⊥

abbrev pub GivesFields : Result (List Pair) CompoundFault → Result (List Pair) FieldFault → Type 0
GivesFields (Ok pairs) read = read ≡ Ok pairs
GivesFields (Err fault) read = FailsFields fault read
