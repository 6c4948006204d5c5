-- What an object is: a file, a descriptor, or neither and why.
use Rattle.std.specs.Prelude.{ℕ, List, [], Option, Some, None, Result, Ok, Err, Bool, true, false, unwrap_or}
use Rattle.meta_text.specs.Fields.{Pair}
use Rattle.compound_object.specs.declared.fault.CompoundFault.{CompoundFault}
use Rattle.compound_object.specs.declared.fault.CompoundFault.TheVariants as faults
use Rattle.compound_object.specs.Reading.{Parts, reading}
use Rattle.carousel_cid.specs.declared.kind.Kind.{Kind}
use Rattle.carousel_cid.specs.declared.kind.Kind.TheVariants.{File, Descriptor, Unusable}
use Rattle.carousel_cid.specs.declared.kind.Cause.{Cause}
use Rattle.carousel_cid.specs.declared.kind.Cause.TheVariants.{Compound}
use Rattle.carousel_cid.specs.KnownFields.{location_name, type_name, number_name, value_of}
use Rattle.carousel_cid.specs.Causes.{cause_of, number_in}
use Rattle.carousel_cid.specs.Repeats.{first_places}
use Rattle.carousel_cid.specs.Listing.{texts_in, identifiers_in}

-- the values of an object in which nothing is wrong
abbrev pub file_in : List Pair → List ℕ → Kind
file_in fields body = File (unwrap_or (value_of location_name fields) []) (value_of type_name fields) body

abbrev pub descriptor_in : List Pair → List ℕ → Kind
descriptor_in fields body = Descriptor (unwrap_or (number_in (value_of number_name fields)) 0) (first_places (identifiers_in (texts_in body)))

abbrev pub usable : Bool → List Pair → List ℕ → Kind
usable true fields body = descriptor_in fields body
usable false fields body = file_in fields body

abbrev pub kind_unless : Option Cause → Kind → Kind
kind_unless None kind = kind
kind_unless (Some cause) kind = Unusable cause

-- what the parts of an object are
unfoldable pub kind_of_parts : Parts → Kind
kind_of_parts parts = kind_unless (cause_of parts) (usable parts.descriptor parts.fields parts.body)

-- the code of a fault of a compound object; want of memory has none
abbrev pub code_of : CompoundFault → ℕ
code_of faults.Short = 1
code_of faults.Version = 2
code_of faults.HeaderLength = 3
code_of faults.Format = 4
code_of faults.Gzip = 5
code_of faults.FillNotZero = 6
code_of (faults.Checksum stated found) = 7
code_of (faults.Fields fault) = 8
code_of faults.Memory = 0

abbrev pub kind_read : Result Parts CompoundFault → Kind
kind_read (Ok parts) = kind_of_parts parts
kind_read (Err fault) = Unusable (Compound (code_of fault))

-- what an object with these bytes is
unfoldable pub kind_of_object : List ℕ → Kind
kind_of_object object = kind_read (reading object)

-- it is a file or a descriptor
abbrev pub IsUsable : Kind → Type 0
IsUsable (File location kind body) = Unit {0}
IsUsable (Descriptor number listed) = Unit {0}
IsUsable (Unusable cause) = ⊥
