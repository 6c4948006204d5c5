-- Why an object is neither a file nor a descriptor: the first of the causes that holds.
use Rattle.std.specs.Prelude.{ℕ, ◌^◌, nat_lt, Bool, true, false, not, if◌then◌else◌, List, [], ◌∷◌, Option, Some, None, is_none, length, option_map}
use Rattle.meta_text.specs.Fields.{Pair}
use Rattle.meta_text.specs.Text.{is_empty}
use Rattle.wire_bytes.specs.FirstFault.{fault_when, first_fault}
use Rattle.compound_object.specs.Reading.{Parts}
use Rattle.carousel_cid.specs.declared.kind.Cause.{Cause}
use Rattle.carousel_cid.specs.declared.kind.Cause.TheVariants.{KnownTwice, LengthDiffers, NoLocation, NoNumber, BadNumber, BadList, ListTooLong}
use Rattle.carousel_cid.specs.Number.{writes_number, number_below}
use Rattle.carousel_cid.specs.KnownFields.{location_name, length_name, number_name, is_known_twice, value_of}
use Rattle.carousel_cid.specs.Descriptor.{most_listed}
use Rattle.carousel_cid.specs.Listing.{texts_in, bad_place, count_in}

-- a length that isn't this one is stated
abbrev pub differs_from : ℕ → Option (List ℕ) → Bool
differs_from size None = false
differs_from size (Some text) = not (writes_number text size)

-- nothing is stated, or the empty text
abbrev pub is_nothing : Option (List ℕ) → Bool
is_nothing None = true
is_nothing (Some text) = is_empty text

-- the number of an instance, in a text that says one
abbrev pub number_in : Option (List ℕ) → Option ℕ
number_in None = None
number_in (Some text) = number_below (2 ^ 32) text

-- what is wrong with a list
unfoldable pub list_fault : List ℕ → Option Cause
list_fault body = first_fault (
    option_map BadList (bad_place 0 (texts_in body))
    ∷ fault_when (nat_lt most_listed (count_in (texts_in body))) ListTooLong
    ∷ [])

unfoldable pub descriptor_fault : List Pair → List ℕ → Option Cause
descriptor_fault fields body = first_fault (
    fault_when (is_none (value_of number_name fields)) NoNumber
    ∷ fault_when (is_none (number_in (value_of number_name fields))) BadNumber
    ∷ list_fault body
    ∷ [])

unfoldable pub file_fault : List Pair → Option Cause
file_fault fields = fault_when (is_nothing (value_of location_name fields)) NoLocation

-- what is wrong with an object, in the order of the causes; the last ones are those of its sort
unfoldable pub cause_of : Parts → Option Cause
cause_of parts = first_fault (
    fault_when (is_known_twice parts.fields) KnownTwice
    ∷ fault_when (differs_from (length parts.body) (value_of length_name parts.fields)) LengthDiffers
    ∷ (if parts.descriptor then descriptor_fault parts.fields parts.body else file_fault parts.fields)
    ∷ [])
