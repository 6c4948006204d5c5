-- What the trees hold while entries and parts are collected.
use Rattle.std.specs.Prelude.{◌≡◌, ℕ, ◌+◌, Bool, ◌&&◌, if◌then◌else◌, List, [], ◌∷◌, ◌++◌, Option, Some, None}
use Rattle.std.specs.BTreeMap.{BTreeMap, get, get_by}
use Rattle.std.specs.Cmp.Lexicographic.{slice_cmp}
use Rattle.std.specs.Option.{option_copied}
use Rattle.std.specs.Ordering.{nat_cmp}
use Rattle.std.specs.Borrow.{Bor}
use Rattle.std.specs.Str.{bytes_eq}
use Rattle.carousel_cid.specs.declared.file_of.FileOf.{FileOf}
use Rattle.slice_join.specs.Slice.{Slice}
use Rattle.slice_join.specs.Groups.{Entry, belong, is_slice}
use Rattle.slice_join.specs.Joins.{part_at}

-- an entry with a slice more
abbrev pub with_slice : Entry → FileOf → Entry
with_slice e g = record { first = e.first; more = e.more ++ g ∷ [] }

-- the entry that a file begins
abbrev pub begun : FileOf → Entry
begun g = record { first = g; more = [] }

-- the entries with a file more: the first to which it belongs takes it, or it begins one
abbrev pub with_file : List Entry → FileOf → List Entry
with_file [] g = begun g ∷ []
with_file (e ∷ es) g = if belong g e.first then with_slice e g ∷ es else e ∷ with_file es g

-- the slices of the entry have this location
abbrev pub is_under : List ℕ → Entry → Bool
is_under location e = is_slice e.first && bytes_eq location e.first.location

-- where the first entry of slices under a location stands, counted from n
abbrev pub place_from : ℕ → List ℕ → List Entry → Option ℕ
place_from n location [] = None
place_from n location (e ∷ es) = if is_under location e then Some n else place_from (n + 1) location es

-- the tree has the place of each location's slices
abbrev pub ArePlaces : BTreeMap (Bor (List ℕ)) ℕ → List Entry → Type 0
ArePlaces tree entries = (location : List ℕ) → get_by (λ k. slice_cmp nat_cmp location k.now) tree ≡ place_from 0 location entries

-- the tree has the part at each place
abbrev pub AreParts : BTreeMap ℕ (Bor (List ℕ)) → List Slice → Type 0
AreParts tree slices = (place : ℕ) → option_copied (get nat_cmp tree place) ≡ part_at slices place
