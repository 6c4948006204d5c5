-- A body cut into pieces of one size, the last with the rest.
use Rattle.std.specs.Prelude.{ℕ, List, Option, length, map}
use Rattle.std.specs.Int.{div_ceil}
use Rattle.wire_bytes.specs.Rows.{cut}
use Rattle.slice_join.specs.declared.cutting.Piece.{Piece}
use Rattle.slice_join.specs.SliceKind.{slice_kind}
use Rattle.slice_join.specs.Slice.{Slice, slice_bytes, slices_from}

-- how many slices a file may have
abbrev pub most_pieces : ℕ
most_pieces = 4096

-- how many pieces of this size come of so many bytes
abbrev pub piece_count : ℕ → ℕ → ℕ
piece_count size bytes = div_ceil bytes size

abbrev pub parts_of : ℕ → List ℕ → List (List ℕ)
parts_of size body = cut (piece_count size (length body)) size body

-- the file that carries a slice
abbrev pub piece_of : Option (List ℕ) → Slice → Piece
piece_of kind s = record { kind = slice_kind kind; body = slice_bytes s }

-- the pieces of a body of a file with this type
abbrev pub pieces_of : Option (List ℕ) → ℕ → List ℕ → List Piece
pieces_of kind size body = map (piece_of kind) (slices_from 1 (piece_count size (length body)) (length body) (parts_of size body))
