-- the pieces so far, with those of what is left, are those of the body
use Rattle.std.proofs.Common.{◌≡◌, ◌+◌, ◌-◌, ◌++◌, length, map}
use Rattle.std.specs.Option.{option_copied}
use Rattle.wire_bytes.specs.Rows.{cut}
use Rattle.slice_join.specs.Slice.{slices_from}
use Rattle.slice_join.specs.Cut.{piece_count, piece_of, pieces_of}
use Rattle.slice_join.proofs.cutting.cut.Given as goal

abbrev pub invariant-loop-place : goal.invariant-loop-place
invariant-loop-place l =
    let kind = option_copied l.kind in
    let count = piece_count l.fn.size (length l.body) in
    l.pieces.items ++ map (piece_of kind) (slices_from (l.place + 1) count (length l.body) (cut (count - l.place) l.fn.size l.rest))
    ≡ pieces_of kind l.fn.size l.body
