-- The names of a catalog's files.
use Rattle.std.specs.Prelude.{ℕ, List, map}
use Rattle.std.specs.List.{flat_map}
use Rattle.std.specs.Str.{bytes_eq}
use Rattle.sender_plan.specs.CatalogInstance.{CatalogItem, CatalogInstance}
use Rattle.sender_plan.specs.Distinct.{distinct}

-- the names of files, in order
abbrev pub item_names : List CatalogItem → List (List ℕ)
item_names items = map (λ item. item.name) items

-- the names of a catalog's files, each once, in the order of first appearance
abbrev pub names_of : List CatalogInstance → List (List ℕ)
names_of instances = distinct bytes_eq (flat_map (λ instance. item_names instance.items) instances)
