-- A carousel instance descriptor as a compound object (RFC 6968, section 3.2, in outline).
use Rattle.std.specs.Prelude.{◌≡◌, ℕ, ◌^◌, ◌<◌, ◌≤◌, true, List, [], ◌∷◌, length, map}
use Rattle.std.specs.List.{join_with_byte}
use Rattle.std.specs.Fmt.{decimal}
use Rattle.meta_text.specs.Fields.{Pair}
use Rattle.meta_text.specs.Lookup.{values_of}
use Rattle.compound_object.specs.Object.{SpellsObject, object_bytes}
use Rattle.carousel_cid.specs.declared.entry.Entry.{Entry}
use Rattle.carousel_cid.specs.Number.{IsNumber}
use Rattle.carousel_cid.specs.KnownFields.{length_name, number_name, AreKnownOnce}
use Rattle.carousel_cid.specs.IdentifierList.{comma, SpellsList, count_of, identifiers_of}
use Rattle.carousel_cid.specs.Repeats.{first_places}

-- how many identifiers a descriptor may list, repeats counted
abbrev pub most_listed : ℕ
most_listed = 4096

-- The bytes are the descriptor of the instance with this number, which lists these identifiers, each at its
-- first place alone. Where it states its body's length, it is that.
pub record ReadsDescriptor (object : List ℕ) (number : ℕ) (listed : List ℕ) : Type 0 where
  pub fields : List Pair
  pub body : List ℕ
  pub spells : SpellsObject object true fields body
  pub once : AreKnownOnce fields
  pub stated : (text : List ℕ) → values_of length_name fields ≡ text ∷ [] → IsNumber text (length body)
  pub number_text : List ℕ
  pub numbered : values_of number_name fields ≡ number_text ∷ []
  pub is_number : IsNumber number_text number
  pub number_fits : number < 2 ^ 32
  pub entries : List Entry
  pub lists : SpellsList body entries
  pub few : count_of entries ≤ most_listed
  pub in_order : listed ≡ first_places (identifiers_of entries)

-- the identifiers in decimal, with commas between them
abbrev pub list_text : List ℕ → List ℕ
list_text listed = join_with_byte comma (map decimal listed)

-- the one spelling of a descriptor that the writer gives
unfoldable pub descriptor_bytes : ℕ → List ℕ → List ℕ
descriptor_bytes number listed = object_bytes true ((number_name, decimal number) ∷ []) (list_text listed)
