-- The bytes before are the symbol's.
use Rattle.std.proofs.Common.{ℕ, ◌<◌, ◌≤◌, ◌-◌, get_or}
use Rattle.rs_code.specs.SourceRows.{column, rows_of}
use Rattle.rs_code.specs.Symbol.{IsSymbol}
use Rattle.rs_code.proofs.symbol.first_difference.Given as goal

abbrev pub invariant-loop-start : goal.invariant-loop-start
invariant-loop-start l = record {
  within : l.start ≤ l.block.size;
  before : (i : ℕ) → i < l.start → IsSymbol (column (rows_of l.block) i) l.esi (get_or l.bytes i 0);
}

abbrev pub decreases-loop-start : goal.decreases-loop-start
decreases-loop-start l = l.block.size - l.start
