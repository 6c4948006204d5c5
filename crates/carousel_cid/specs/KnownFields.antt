-- The metadata fields that say what an object is, and their values. Other fields are passed over.
use Rattle.std.specs.Prelude.{◌≤◌, ℕ, nat_lt, Bool, List, [], ◌∷◌, Option, Some, None, length, codes}
use Rattle.std.specs.List.{list_any, AllByRecursion}
use Rattle.meta_text.specs.Fields.{Pair}
use Rattle.meta_text.specs.Lookup.{values_of}

abbrev pub location_name : List ℕ
location_name = codes "Content-Location"

abbrev pub type_name : List ℕ
type_name = codes "Content-Type"

abbrev pub length_name : List ℕ
length_name = codes "Content-Length"

abbrev pub number_name : List ℕ
number_name = codes "Fcast-CID-ID"

abbrev pub complete_name : List ℕ
complete_name = codes "Fcast-CID-Complete"

abbrev pub known_names : List (List ℕ)
known_names = location_name ∷ type_name ∷ length_name ∷ number_name ∷ complete_name ∷ []

-- no known field comes twice
abbrev pub AreKnownOnce : List Pair → Type 0
AreKnownOnce fields = AllByRecursion (λ name. length (values_of name fields) ≤ 1) known_names

-- more than one pair has the name
unfoldable pub is_twice : List Pair → List ℕ → Bool
is_twice fields name = nat_lt 1 (length (values_of name fields))

-- a known field comes twice
unfoldable pub is_known_twice : List Pair → Bool
is_known_twice fields = list_any (is_twice fields) known_names

abbrev pub only_one : List (List ℕ) → Option (List ℕ)
only_one (value ∷ []) = Some value
only_one values = None

-- the value under the name, where one pair has it
unfoldable pub value_of : List ℕ → List Pair → Option (List ℕ)
value_of name fields = only_one (values_of name fields)
