-- A line of a catalog: what is wrong with it, or what it says. The catalog's text is this project's own.
use Rattle.std.specs.Prelude.{ℕ, ◌^◌, ◌==◌, nat_le, Bool, false, not, ◌&&◌, ◌||◌, List, [], ◌∷◌, Option, Some, None, is_none, option_map, reverse, drop, codes}
use Rattle.std.specs.List.{list_any, slice_split}
use Rattle.std.specs.Str.{bytes_eq}
use Rattle.wire_bytes.specs.FirstFault.{fault_when, first_fault}
use Rattle.meta_text.specs.Text.{is_empty, is_clean}
use Rattle.carousel_cid.specs.Number.{number_below}
use Rattle.sender_plan.specs.CatalogInstance.{CatalogItem, most_instances}

abbrev pub is_tab : ℕ → Bool
is_tab b = b == 0x09

-- the fields of a line: its pieces between the tabs
abbrev pub fields_of : List ℕ → List (List ℕ)
fields_of line = slice_split is_tab line

abbrev pub instance_word : List ℕ
instance_word = codes "instance"

abbrev pub file_word : List ℕ
file_word = codes "file"

-- `instance` and a field
abbrev pub is_instance : List (List ℕ) → Bool
is_instance (word ∷ number ∷ []) = bytes_eq word instance_word
is_instance fields = false

-- `file`, and two fields or three
abbrev pub is_file : List (List ℕ) → Bool
is_file (word ∷ name ∷ location ∷ []) = bytes_eq word file_word
is_file (word ∷ name ∷ location ∷ kind ∷ []) = bytes_eq word file_word
is_file fields = false

-- the number in the field behind the word, where it is one of 32 bits
abbrev pub number_in : List (List ℕ) → Option ℕ
number_in (word ∷ number ∷ fields) = number_below (2 ^ 32) number
number_in fields = None

abbrev pub begins_with_space : List ℕ → Bool
begins_with_space [] = false
begins_with_space (b ∷ bs) = b == 0x20

-- empty, or with a space at one of its ends
abbrev pub is_bad_text : List ℕ → Bool
is_bad_text field = is_empty field || begins_with_space field || begins_with_space (reverse field)

-- the causes of a clean line with these fields, behind so many `instance` lines
abbrev pub causes_of : ℕ → List (List ℕ) → List (Option ℕ)
causes_of before fields =
    fault_when (not (is_instance fields || is_file fields)) 2
    ∷ fault_when (is_instance fields && is_none (number_in fields)) 3
    ∷ fault_when (is_file fields && (before == 0)) 4
    ∷ fault_when (is_file fields && list_any is_bad_text (drop 1 fields)) 5
    ∷ fault_when (is_instance fields && nat_le most_instances before) 6
    ∷ []

-- what is wrong with a line behind so many `instance` lines: the lowest of its causes
unfoldable pub cause_of : ℕ → List ℕ → Option ℕ
cause_of before line = first_fault (fault_when (not (is_clean line)) 1 ∷ causes_of before (fields_of line))

-- what a line says: an instance begins, or the last one has a file more
pub data Entry : Type 0 where
  Begin : ℕ → Entry
  Item : CatalogItem → Entry

-- what a line with these fields says, where nothing is wrong with it
abbrev pub entry_in : List (List ℕ) → Option Entry
entry_in (word ∷ number ∷ []) = option_map Begin (number_below (2 ^ 32) number)
entry_in (word ∷ name ∷ location ∷ []) = Some (Item (record { name = name; location = location; kind = None }))
entry_in (word ∷ name ∷ location ∷ kind ∷ []) = Some (Item (record { name = name; location = location; kind = Some kind }))
entry_in fields = None
