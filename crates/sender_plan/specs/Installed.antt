-- An instance of a catalog as a receiver that installs it has it, in the catalog's own words (RFC 6968, section 3.2).
use Rattle.std.specs.Prelude.{◌≡◌, ◌≤◌, ℕ, Bool, List, Some, map}
use Rattle.carousel_cid.specs.Instances.{Shown, toi_of}
use Rattle.carousel_cid.specs.Kinds.{kind_of_object}
use Rattle.carousel_cid.specs.declared.kind.Kind.{Kind}
use Rattle.carousel_cid.specs.declared.file_of.FileOf.{FileOf}
use Rattle.sender_plan.specs.CatalogInstance.{CatalogItem, CatalogInstance}
use Rattle.sender_plan.specs.Distinct.{distinct}
use Rattle.sender_plan.specs.Content.{Content, Descriptor, same, identifier}
use Rattle.sender_plan.specs.Plan.{body_of, file_of, contents}
use Rattle.sender_plan.specs.Session.{SentObject, Session, object_of}

-- two items are one file where location, type and body are the same; this says the body of a name
abbrev pub is_one_file : (List ℕ → List ℕ) → CatalogItem → CatalogItem → Bool
is_one_file body a b = same (file_of body a) (file_of body b)

-- the file of an item: its identifier, its location, its type and its body
abbrev pub shown_file : List Content → (List ℕ → List ℕ) → CatalogItem → FileOf
shown_file all body item = record { toi = identifier all (file_of body item); location = item.location; kind = item.kind; body = body item.name }

-- the files of an instance in order, each at its first place alone
abbrev pub shown_files : List Content → (List ℕ → List ℕ) → CatalogInstance → List FileOf
shown_files all body instance = map (shown_file all body) (distinct (is_one_file body) instance.items)

-- its number, the identifier of its descriptor, and its files with their identifiers, which count all the contents
abbrev pub shown_among : List Content → (List ℕ → List ℕ) → CatalogInstance → Shown
shown_among all body instance = record {
  number = instance.number;
  descriptor_toi = identifier all (Descriptor instance);
  listed = map toi_of (shown_files all body instance);
  files = shown_files all body instance;
}

-- an instance of a catalog, whose files have these bodies in the order of its names
abbrev pub shown_of : List CatalogInstance → List (List ℕ) → CatalogInstance → Shown
shown_of instances bodies instance = shown_among (contents (body_of instances bodies) instances) (body_of instances bodies) instance

-- the session has an object with this identifier, counted from 1, and it reads as this
pub record Carries (s : Session) (toi : ℕ) (kind : Kind) : Type 0 where
  pub some : 1 ≤ toi
  pub object : SentObject
  pub there : object_of s toi ≡ Some object
  pub reads : kind_of_object object.bytes ≡ kind
