-- Why an object is neither a file nor a descriptor: when each cause is so, and which is the first.
use Rattle.std.specs.Prelude.{◌≡◌, ◌≢◌, ℕ, ◌^◌, ◌<◌, ◌≤◌, true, false, List, [], ◌∷◌, length}
use Rattle.meta_text.specs.Lookup.{values_of}
use Rattle.compound_object.specs.declared.fault.CompoundFault.{CompoundFault}
use Rattle.compound_object.specs.Object.{SpellsObject}
use Rattle.compound_object.specs.Reading.{Parts}
use Rattle.compound_object.specs.Causes as objects
use Rattle.carousel_cid.specs.declared.entry.Entry.{Entry}
use Rattle.carousel_cid.specs.declared.kind.Cause.{Cause}
use Rattle.carousel_cid.specs.declared.kind.Cause.TheVariants.{KnownTwice, LengthDiffers, NoLocation, NoNumber, BadNumber, BadList, ListTooLong, Compound}
use Rattle.carousel_cid.specs.Number.{IsNumber}
use Rattle.carousel_cid.specs.KnownFields.{location_name, length_name, number_name, AreKnownOnce}
use Rattle.carousel_cid.specs.IdentifierList.{SpellsList, count_of}
use Rattle.carousel_cid.specs.Descriptor.{most_listed}
use Rattle.carousel_cid.specs.BadEntry.{StartsBad}

-- the cause is so of an object with these parts; that it is no object is no cause of its parts
abbrev pub IsSo : Parts → Cause → Type 0
IsSo parts KnownTwice = ¬ AreKnownOnce parts.fields
IsSo parts LengthDiffers =
    (text : List ℕ) × (values_of length_name parts.fields ≡ text ∷ []) × ¬ IsNumber text (length parts.body)
IsSo parts NoLocation =
    (parts.descriptor ≡ false) × ((location : List ℕ) → values_of location_name parts.fields ≡ location ∷ [] → location ≡ [])
IsSo parts NoNumber = (parts.descriptor ≡ true) × ((text : List ℕ) → values_of number_name parts.fields ≢ text ∷ [])
IsSo parts BadNumber =
    (parts.descriptor ≡ true)
    × ((text : List ℕ) (number : ℕ) → values_of number_name parts.fields ≡ text ∷ [] → IsNumber text number → 2 ^ 32 ≤ number)
IsSo parts (BadList at) = (parts.descriptor ≡ true) × StartsBad parts.body at
IsSo parts ListTooLong =
    (parts.descriptor ≡ true) × (entries : List Entry) × SpellsList parts.body entries × (most_listed < count_of entries)
IsSo parts (Compound code) = ⊥

-- the order of the causes
abbrev pub rank : Cause → ℕ
rank KnownTwice = 1
rank LengthDiffers = 2
rank NoLocation = 3
rank NoNumber = 4
rank BadNumber = 5
rank (BadList at) = 6
rank ListTooLong = 7
rank (Compound code) = 8

-- no cause below this rank is so
abbrev pub NoneBelow : Parts → ℕ → Type 0
NoneBelow parts n = (cause : Cause) → rank cause < n → ¬ IsSo parts cause

-- the cause is so, and none before it
pub record IsFirst (parts : Parts) (cause : Cause) : Type 0 where
  pub is : IsSo parts cause
  pub first : NoneBelow parts (rank cause)

-- the code of a fault of a compound object, which is its place in their order
abbrev pub IsNoObject : List ℕ → ℕ → Type 0
IsNoObject object code = (fault : CompoundFault) × objects.IsFirst object fault × (code ≡ objects.rank fault)

-- the bytes are an object of which this cause is the first
abbrev pub IsObjectWith : List ℕ → Cause → Type 0
IsObjectWith object cause = (parts : Parts) × SpellsObject object parts.descriptor parts.fields parts.body × IsFirst parts cause

-- the first cause why the bytes are neither a file nor a descriptor
abbrev pub IsFirstOf : List ℕ → Cause → Type 0
IsFirstOf object (Compound code) = IsNoObject object code
IsFirstOf object cause = IsObjectWith object cause
