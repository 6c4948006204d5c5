-- The stages in which a line is read.
use Rattle.std.specs.Prelude.{◌≡◌, ℕ, ◌<◌, ◌≤◌, Bool, true, false, not, List, [], ◌∷◌, ◌++◌, Option, Some, None, option_copied, option_to_list}
use Rattle.std.specs.List.{list_all}
use Rattle.meta_text.specs.Text.{is_value_byte}
use Rattle.sender_plan.specs.declared.line.FileLine.{FileLine}
use Rattle.sender_plan.specs.declared.line.Form.{Form}
use Rattle.sender_plan.specs.declared.line.Form.TheVariants as forms
use Rattle.sender_plan.specs.declared.line.Said.{Said}
use Rattle.sender_plan.specs.declared.line.Said.TheVariants as saids
use Rattle.sender_plan.specs.CatalogInstance.{CatalogItem, CatalogInstance, IsItem, most_instances}
use Rattle.sender_plan.specs.CatalogLine.{is_tab, instance_word, file_word, is_instance, is_file, Entry, Begin, Item}
use Rattle.sender_plan.specs.Catalog.{items_before, instances_of}

-- the fields behind the word of a `file` line
abbrev pub texts_of : FileLine → List (List ℕ)
texts_of file = file.name.now ∷ file.location.now ∷ option_to_list (option_copied file.kind)

abbrev pub is_no_tab : ℕ → Bool
is_no_tab b = not (is_tab b)

-- a field of a clean line
pub record IsField (field : List ℕ) : Type 0 where
  pub clean : list_all is_value_byte field ≡ true
  pub whole : list_all is_no_tab field ≡ true

abbrev pub HasForm : List (List ℕ) → Option Form → Type 0
HasForm fields (Some (forms.Instance number)) = fields ≡ instance_word ∷ number.now ∷ []
HasForm fields (Some (forms.File file)) = fields ≡ file_word ∷ texts_of file
HasForm fields None = (is_instance fields ≡ false) × (is_file fields ≡ false)

abbrev pub item_of : FileLine → CatalogItem
item_of file = record { name = file.name.now; location = file.location.now; kind = option_copied file.kind }

abbrev pub entry_of : Said → Entry
entry_of (saids.Instance number) = Begin number
entry_of (saids.File file) = Item (item_of file)

-- it may be the next line behind so many `instance` lines
abbrev pub Follows : ℕ → Said → Type 0
Follows before (saids.Instance number) = before < most_instances
Follows before (saids.File file) = (1 ≤ before) × IsItem (item_of file)

-- the instances so far, with what the entries behind them say
abbrev pub continued : List CatalogInstance → List Entry → List CatalogInstance
continued [] entries = instances_of entries
continued (last ∷ []) entries = record { number = last.number; items = last.items ++ items_before entries } ∷ instances_of entries
continued (first ∷ more) entries = first ∷ continued more entries

-- a file more in the last instance
abbrev pub with_item : List CatalogInstance → CatalogItem → List CatalogInstance
with_item [] item = []
with_item (last ∷ []) item = record { number = last.number; items = last.items ++ item ∷ [] } ∷ []
with_item (first ∷ more) item = first ∷ with_item more item
