-- A file as a compound object (RFC 6968, section 3.2, in outline).
use Rattle.std.specs.Prelude.{◌≡◌, ◌≢◌, ℕ, false, List, [], ◌∷◌, ◌++◌, Option, Some, None, length, option_to_list}
use Rattle.std.specs.Fmt.{decimal}
use Rattle.meta_text.specs.Fields.{Pair}
use Rattle.meta_text.specs.Lookup.{values_of}
use Rattle.compound_object.specs.Object.{SpellsObject, object_bytes}
use Rattle.carousel_cid.specs.Number.{IsNumber}
use Rattle.carousel_cid.specs.KnownFields.{location_name, type_name, length_name, AreKnownOnce}

-- The bytes are a file with this location, this type where it has one, and this body. Where it states the
-- body's length, it is that.
pub record ReadsFile (object location : List ℕ) (kind : Option (List ℕ)) (body : List ℕ) : Type 0 where
  pub fields : List Pair
  pub spells : SpellsObject object false fields body
  pub once : AreKnownOnce fields
  pub stated : (text : List ℕ) → values_of length_name fields ≡ text ∷ [] → IsNumber text (length body)
  pub located : values_of location_name fields ≡ location ∷ []
  pub somewhere : location ≢ []
  pub typed : values_of type_name fields ≡ option_to_list kind

abbrev pub type_fields : Option (List ℕ) → List Pair
type_fields None = []
type_fields (Some kind) = (type_name, kind) ∷ []

abbrev pub file_fields : List ℕ → Option (List ℕ) → ℕ → List Pair
file_fields location kind size = (location_name, location) ∷ (type_fields kind ++ (length_name, decimal size) ∷ [])

-- the one spelling of a file that the writer gives
unfoldable pub file_bytes : List ℕ → Option (List ℕ) → List ℕ → List ℕ
file_bytes location kind body = object_bytes false (file_fields location kind (length body)) body
