-- Why the slices under one location make no file: the first fault that holds, of the slices in listed order.
use Rattle.std.specs.Prelude.{ℕ, ◌==◌, nat_lt, Bool, not, ◌||◌, ◌&&◌, if◌then◌else◌, List, [], ◌∷◌, ◌++◌, length, map, Option, Some, None}
use Rattle.std.specs.List.{list_any, sum_by, range_with_len}
use Rattle.std.specs.Option.{option_map, option_eq}
use Rattle.std.specs.Str.{bytes_eq}
use Rattle.wire_bytes.specs.FirstFault.{fault_when, first_fault}
use Rattle.carousel_cid.specs.declared.file_of.FileOf.{FileOf}
use Rattle.slice_join.specs.declared.fault.JoinFault.{JoinFault}
use Rattle.slice_join.specs.declared.fault.JoinFault.TheVariants.{Header, Disagree, Twice, Missing, Total}
use Rattle.slice_join.specs.Slice.{Slice, head_length, slice_of}
use Rattle.slice_join.specs.Cut.{most_pieces}
use Rattle.slice_join.specs.Groups.{Entry, files_of}

-- the identifier of the first file that passes the test
abbrev pub first_where : (FileOf → Bool) → List FileOf → Option ℕ
first_where test [] = None
first_where test (f ∷ fs) = if test f then Some f.toi else first_where test fs

abbrev pub said : FileOf → Slice
said f = slice_of f.body

-- from 1 to the count, which is at most 4096
abbrev pub is_placed : Slice → Bool
is_placed s = nat_lt 0 s.place && (not (nat_lt s.count s.place) && not (nat_lt most_pieces s.count))

-- the body is too short, or says no place that can be
abbrev pub has_bad_head : FileOf → Bool
has_bad_head f = nat_lt (length f.body) head_length || not (is_placed (said f))

-- count, total or type differ from the first slice's
abbrev pub disagrees : FileOf → FileOf → Bool
disagrees first f =
    not ((said f).count == (said first).count)
    || (not ((said f).total == (said first).total) || not (option_eq bytes_eq f.kind first.kind))

-- whether the number is one of these
abbrev pub is_among : List ℕ → ℕ → Bool
is_among places p = list_any (λ q. q == p) places

-- the first place that is among those before it
abbrev pub repeated : List ℕ → List ℕ → Option ℕ
repeated before [] = None
repeated before (p ∷ ps) = if is_among before p then Some p else repeated (before ++ p ∷ []) ps

-- the first of these that isn't among the places
abbrev pub missing : List ℕ → List ℕ → Option ℕ
missing places [] = None
missing places (p ∷ ps) = if is_among places p then missing places ps else Some p

abbrev pub place_of : Slice → ℕ
place_of s = s.place

abbrev pub places_of : List Slice → List ℕ
places_of slices = map place_of slices

-- 1, 2, .. up to the count
abbrev pub places_to : ℕ → List ℕ
places_to count = range_with_len 1 count

-- how many bytes the parts have together
abbrev pub found_in : List Slice → ℕ
found_in slices = sum_by (λ s. length s.part) slices

-- what the slices of a group say
abbrev pub all_said : Entry → List Slice
all_said e = map said (files_of e)

-- the faults in their order
unfoldable pub join_fault : Entry → Option JoinFault
join_fault e = first_fault (
    option_map Header (first_where has_bad_head (files_of e))
    ∷ option_map Disagree (first_where (disagrees e.first) (files_of e))
    ∷ option_map Twice (repeated [] (places_of (all_said e)))
    ∷ option_map Missing (missing (places_of (all_said e)) (places_to (said e.first).count))
    ∷ fault_when (not (found_in (all_said e) == (said e.first).total)) (Total (found_in (all_said e)))
    ∷ [])
