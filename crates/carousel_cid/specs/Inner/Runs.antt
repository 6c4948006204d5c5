-- Identifiers as runs of numbers that follow each other.
use Rattle.std.specs.Prelude.{◌≡◌, ℕ, ◌≤◌, ◌<◌, ◌^◌, ◌==◌, true, List, [], ◌∷◌, ◌++◌, Option, Some, None}
use Rattle.std.specs.List.{list_any, range_with_len}
use Rattle.std.specs.Ordering.{nat_cmp}
use Rattle.std.specs.BTreeMap.{BTreeMap, get}
use Rattle.carousel_cid.specs.declared.entry.Entry.{Entry}
use Rattle.carousel_cid.specs.IdentifierList.{size_of}

-- the last one isn't below the first, and is an identifier
pub record IsRun (r : Entry) : Type 0 where
  pub order : r.first ≤ r.last
  pub fits : r.last < 2 ^ 112

abbrev pub range_of : Entry → List ℕ
range_of r = range_with_len r.first (size_of r)

-- the identifiers of runs of which the last one stands first
abbrev pub left : List Entry → List ℕ
left [] = []
left (r ∷ rs) = left rs ++ range_of r

-- ---- the runs that were seen

-- the first identifier of each run, by its last
abbrev pub Seen : Type 0
Seen = BTreeMap ℕ ℕ

abbrev pub IsSeen : Seen → ℕ → ℕ → Type 0
IsSeen seen first last = get nat_cmp seen last ≡ Some first

-- an identifier stands in a run that was seen
pub record StandsIn (seen : Seen) (toi : ℕ) : Type 0 where
  pub first : ℕ
  pub last : ℕ
  pub is : IsSeen seen first last
  pub from : first ≤ toi
  pub to : toi ≤ last

-- what was seen are the identifiers of the list, and the runs don't meet
pub record AreSeen (seen : Seen) (list : List ℕ) : Type 0 where
  pub order : (first last : ℕ) → IsSeen seen first last → first ≤ last
  pub there : (toi : ℕ) → StandsIn seen toi → list_any (λ u. u == toi) list ≡ true
  pub all : (toi : ℕ) → list_any (λ u. u == toi) list ≡ true → StandsIn seen toi
  pub apart : (first last later_first later_last : ℕ) → IsSeen seen first last → IsSeen seen later_first later_last → last < later_last → last < later_first

-- the first of the runs that end at the identifier or behind it
abbrev pub IsNext : Seen → ℕ → Option Entry → Type 0
IsNext seen toi None = (first last : ℕ) → IsSeen seen first last → last < toi
IsNext seen toi (Some r) = (toi ≤ r.last) × IsSeen seen r.first r.last × ((first last : ℕ) → IsSeen seen first last → toi ≤ last → r.last ≤ last)
