-- The session that is planned from a catalog, the bodies of its files and parameters (RFC 6968, section 3).
use Rattle.std.specs.Prelude.{ℕ, ◌+◌, List, [], ◌∷◌, ◌++◌, Option, length, map, nat_lt, slice_index_or}
use Rattle.std.specs.List.{flat_map, position_or_len, sum_by}
use Rattle.std.specs.Str.{bytes_eq}
use Rattle.wire_bytes.specs.FirstFault.{fault_when}
use Rattle.oti_blocks.specs.Partition.{ObjectInformation}
use Rattle.carousel_cid.specs.Repeats.{first_places}
use Rattle.carousel_cid.specs.File.{file_bytes}
use Rattle.carousel_cid.specs.Descriptor.{descriptor_bytes}
use Rattle.sender_plan.specs.declared.params.Params.{Params}
use Rattle.sender_plan.specs.declared.fault.PlanFault.{PlanFault}
use Rattle.sender_plan.specs.declared.fault.PlanFault.TheVariants.{TooLarge}
use Rattle.sender_plan.specs.CatalogInstance.{CatalogItem, CatalogInstance}
use Rattle.sender_plan.specs.Distinct.{distinct}
use Rattle.sender_plan.specs.Names.{names_of}
use Rattle.sender_plan.specs.Check.{check_faults, most_bytes}
use Rattle.sender_plan.specs.Content.{Content, File, Descriptor, same, identifier}
use Rattle.sender_plan.specs.Session as sessions

-- the body under a name: bodies stand in the order of the catalog's names
abbrev pub body_of : List CatalogInstance → List (List ℕ) → List ℕ → List ℕ
body_of instances bodies name = slice_index_or bodies (position_or_len (bytes_eq name) (names_of instances)) []

-- the file of an item, where this says the body of a name
abbrev pub file_of : (List ℕ → List ℕ) → CatalogItem → Content
file_of body item = File item.location item.kind (body item.name)

abbrev pub files_of : (List ℕ → List ℕ) → CatalogInstance → List Content
files_of body instance = map (file_of body) instance.items

-- an instance's files in order, and then its descriptor
abbrev pub contents_of : (List ℕ → List ℕ) → CatalogInstance → List Content
contents_of body instance = files_of body instance ++ Descriptor instance ∷ []

abbrev pub contents : (List ℕ → List ℕ) → List CatalogInstance → List Content
contents body instances = flat_map (contents_of body) instances

-- what an instance lists: the identifiers of its files, repeats left out
abbrev pub listed_of : List Content → (List ℕ → List ℕ) → CatalogInstance → List ℕ
listed_of all body instance = first_places (map (identifier all) (files_of body instance))

-- the bytes of a content, where this says what an instance lists
abbrev pub content_bytes : (CatalogInstance → List ℕ) → Content → List ℕ
content_bytes listed (File location kind body) = file_bytes location kind body
content_bytes listed (Descriptor instance) = descriptor_bytes instance.number (listed instance)

abbrev pub information : Params → List ℕ → ObjectInformation
information params bytes = record { length = length bytes; symbol = params.symbol; max_block = params.max_block; max_n = params.max_n }

-- objects with these bytes, numbered from this identifier on
abbrev pub objects_from : Params → ℕ → List (List ℕ) → List sessions.SentObject
objects_from params toi [] = []
objects_from params toi (bytes ∷ more) = record { toi = toi; oti = information params bytes; bytes = bytes } ∷ objects_from params (toi + 1) more

abbrev pub sent_of : List Content → (List ℕ → List ℕ) → CatalogInstance → sessions.SentInstance
sent_of all body instance = record { number = instance.number; descriptor_toi = identifier all (Descriptor instance); listed = listed_of all body instance }

-- the session of these contents: its objects are the distinct ones
abbrev pub session_of : List Content → (List ℕ → List ℕ) → List CatalogInstance → Params → sessions.Session
session_of all body instances params = record {
  tsi = params.tsi;
  objects = objects_from params 1 (map (content_bytes (listed_of all body)) (distinct same all));
  instances = map (sent_of all body) instances;
  cycles = params.cycles;
}

-- the session that is planned
unfoldable pub planned : List CatalogInstance → List (List ℕ) → Params → sessions.Session
planned instances bodies params = session_of (contents (body_of instances bodies) instances) (body_of instances bodies) instances params

abbrev pub total_of : List (List ℕ) → ℕ
total_of bodies = sum_by length bodies

-- what refuses a plan, in the order in which it is looked for
abbrev pub plan_faults : List CatalogInstance → List (List ℕ) → Params → List (Option PlanFault)
plan_faults instances bodies params = check_faults instances params ++ fault_when (nat_lt most_bytes (total_of bodies)) (TooLarge (total_of bodies)) ∷ []
