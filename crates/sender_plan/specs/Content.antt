-- What objects of a session carry: files, and descriptors of instances (RFC 6968, section 3).
use Rattle.std.specs.Prelude.{ℕ, ◌+◌, ◌==◌, ◌&&◌, Bool, true, false, List, Option, Some, None}
use Rattle.std.specs.List.{position_or_len}
use Rattle.std.specs.Str.{bytes_eq}
use Rattle.sender_plan.specs.CatalogInstance.{CatalogInstance}
use Rattle.sender_plan.specs.Distinct.{distinct}

-- a file with its location, its type where it has one, and its bytes; or the descriptor of an instance
pub data Content : Type 0 where
  File : List ℕ → Option (List ℕ) → List ℕ → Content
  Descriptor : CatalogInstance → Content

abbrev pub same_kind : Option (List ℕ) → Option (List ℕ) → Bool
same_kind None None = true
same_kind (Some a) (Some b) = bytes_eq a b
same_kind a b = false

-- files are the same by their location, their type and their bytes, descriptors by their instance's number
abbrev pub same : Content → Content → Bool
same (File location kind body) (File place sort bytes) = bytes_eq location place && (same_kind kind sort && bytes_eq body bytes)
same (Descriptor i) (Descriptor j) = i.number == j.number
same a b = false

-- the identifier of a content: its place among the distinct ones, which are counted from 1
abbrev pub identifier : List Content → Content → ℕ
identifier contents content = position_or_len (same content) (distinct same contents) + 1
