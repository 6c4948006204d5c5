-- What a sender's catalog lists: instances, and the files of each (RFC 6968, section 3).
use Rattle.std.specs.Prelude.{ℕ, ◌<◌, List, Option, length}
use Rattle.std.specs.Option.{ForSome}
use Rattle.meta_text.specs.Text.{IsValue}

-- a file of an instance: its name where it lies, its location, and its type where it has one
pub record CatalogItem : Type 0 where
  pub name : List ℕ
  pub location : List ℕ
  pub kind : Option (List ℕ)

-- the location isn't empty; it and the type may stand in an object's fields
pub record IsItem (item : CatalogItem) : Type 0 where
  pub somewhere : 0 < length item.location
  pub location : IsValue item.location
  pub kind : ForSome item.kind IsValue

-- an instance: its number, and its files in order
pub record CatalogInstance : Type 0 where
  pub number : ℕ
  pub items : List CatalogItem

-- how many instances a catalog may have
abbrev pub most_instances : ℕ
most_instances = 256
