-- The types of slices. A slice's type is `fcast-slice`, or `fcast-slice;` and the type of the whole file.
use Rattle.std.specs.Prelude.{ℕ, nat_eq, Bool, ◌||◌, if◌then◌else◌, List, ◌++◌, Option, Some, None, length, drop, codes}
use Rattle.std.specs.List.{starts_with}
use Rattle.std.specs.Str.{bytes_eq}

abbrev pub slice_word : List ℕ
slice_word = codes "fcast-slice"

abbrev pub slice_start : List ℕ
slice_start = codes "fcast-slice;"

-- the type of the slices of a file with this type
abbrev pub slice_kind : Option (List ℕ) → List ℕ
slice_kind None = slice_word
slice_kind (Some kind) = slice_start ++ kind

-- whether a text is the type of a slice
unfoldable pub is_slice_kind : List ℕ → Bool
is_slice_kind text = bytes_eq text slice_word || starts_with nat_eq text slice_start

-- the type of the whole file, as a slice's type says it
unfoldable pub whole_kind : List ℕ → Option (List ℕ)
whole_kind text = if starts_with nat_eq text slice_start then Some (drop (length slice_start) text) else None
