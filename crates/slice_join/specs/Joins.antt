-- What is joined from the files of an instance: files that are no slices, each by itself, and the slices under each
-- location, in order of first appearance.
use Rattle.std.specs.Prelude.{ℕ, ◌==◌, if◌then◌else◌, List, [], ◌∷◌, map, unwrap_or, Option, Some, None}
use Rattle.std.specs.List.{flat_map}
use Rattle.std.specs.Option.{option_and_then}
use Rattle.carousel_cid.specs.declared.file_of.FileOf.{FileOf}
use Rattle.slice_join.specs.declared.fault.JoinFault.{JoinFault}
use Rattle.slice_join.specs.declared.joined.Joined.{Joined}
use Rattle.slice_join.specs.declared.joined.Outcome.TheVariants.{Whole, Broken}
use Rattle.slice_join.specs.SliceKind.{whole_kind}
use Rattle.slice_join.specs.Slice.{Slice}
use Rattle.slice_join.specs.Groups.{Entry, is_slice, entries_of}
use Rattle.slice_join.specs.Faults.{all_said, join_fault, places_to, said}

-- the part of the first slice with this place
abbrev pub part_at : List Slice → ℕ → Option (List ℕ)
part_at [] p = None
part_at (s ∷ ss) p = if s.place == p then Some s.part else part_at ss p

-- the parts at these places, one behind the other
abbrev pub parts_at : List Slice → List ℕ → List ℕ
parts_at slices places = flat_map (λ p. unwrap_or (part_at slices p) []) places

-- the parts in order of place
unfoldable pub joined_body : Entry → List ℕ
joined_body e = parts_at (all_said e) (places_to (said e.first).count)

-- a file that is no slice
abbrev pub alone : FileOf → Joined
alone f = record { toi = f.toi; location = f.location; kind = f.kind; outcome = Whole f.body }

-- the file of a group under its first slice's identifier, unless there is a fault
abbrev pub unless_broken : Option JoinFault → Entry → Joined
unless_broken None e = record {
  toi = e.first.toi;
  location = e.first.location;
  kind = option_and_then whole_kind e.first.kind;
  outcome = Whole (joined_body e);
}
unless_broken (Some fault) e = record {
  toi = e.first.toi;
  location = e.first.location;
  kind = None;
  outcome = Broken fault;
}

unfoldable pub joined : Entry → Joined
joined e = if is_slice e.first then unless_broken (join_fault e) e else alone e.first

unfoldable pub joins : List FileOf → List Joined
joins files = map joined (entries_of files)
