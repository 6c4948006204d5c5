-- At each place, the weighed bytes so far.
use Rattle.std.proofs.Common.{◌≡◌, ℕ, ◌<◌, ◌+◌, length, get_or}
use Rattle.rs_code.specs.SourceRows.{column, rows_of}
use Rattle.rs_code.specs.Weights.{weighed_bytes}
use Rattle.rs_code.proofs.symbol.weigh_rows.Given as goal

abbrev pub invariant-loop-i : goal.invariant-loop-i
invariant-loop-i l = record {
  full : length l.out ≡ length l.fn.out;
  sums : (at : ℕ) → at < length l.fn.out → get_or l.out at 0 ≡ weighed_bytes l.weights (column (rows_of l.block) (l.start + at)) l.i;
}
