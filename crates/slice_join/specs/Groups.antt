-- The files of an instance, its slices grouped by location, in order of first appearance.
use Rattle.std.specs.Prelude.{ℕ, Bool, false, not, ◌&&◌, List, [], ◌∷◌, Option, Some, None}
use Rattle.std.specs.List.{filter}
use Rattle.std.specs.Str.{bytes_eq}
use Rattle.carousel_cid.specs.declared.file_of.FileOf.{FileOf}
use Rattle.slice_join.specs.SliceKind.{is_slice_kind}

-- whether a file's type is that of a slice
abbrev pub is_slice_type : Option (List ℕ) → Bool
is_slice_type None = false
is_slice_type (Some kind) = is_slice_kind kind

abbrev pub is_slice : FileOf → Bool
is_slice f = is_slice_type f.kind

-- both are slices, and under one location
unfoldable pub belong : FileOf → FileOf → Bool
belong f g = is_slice f && (is_slice g && bytes_eq f.location g.location)

-- a file, and the slices behind it that belong to it
pub record Entry : Type 0 where
  pub first : FileOf
  pub more : List FileOf

abbrev pub files_of : Entry → List FileOf
files_of e = e.first ∷ e.more

-- the file doesn't belong to this entry
abbrev pub is_apart : FileOf → Entry → Bool
is_apart f e = not (belong f e.first)

-- each file begins an entry, with all that belong to it behind it
abbrev pub entries_of : List FileOf → List Entry
entries_of [] = []
entries_of (f ∷ fs) = record { first = f; more = filter (belong f) fs } ∷ filter (is_apart f) (entries_of fs)
