use Rattle.std.proofs.Common.{◌≡◌, ◌==◌, not, length, drop}
use Rattle.std.specs.List.{position_from, zip}
use Rattle.wire_bytes.specs.Bytes.{zero_filled}
use Rattle.object_store.proofs.difference.row_difference.Given as goal

abbrev pub invariant-loop-at : goal.invariant-loop-at
invariant-loop-at l =
    position_from (λ p. not (p.0 == p.1)) l.at (drop l.at (zip l.row (zero_filled (length l.row) l.symbol)))
    ≡ position_from (λ p. not (p.0 == p.1)) 0 (zip l.row (zero_filled (length l.row) l.symbol))
