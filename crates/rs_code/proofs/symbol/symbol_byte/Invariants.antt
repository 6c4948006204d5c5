-- The weighed bytes so far.
use Rattle.std.proofs.Common.{◌≡◌}
use Rattle.rs_code.specs.SourceRows.{column, rows_of}
use Rattle.rs_code.specs.Weights.{weighed_bytes}
use Rattle.rs_code.proofs.symbol.symbol_byte.Given as goal

abbrev pub invariant-loop-i : goal.invariant-loop-i
invariant-loop-i l = l.sum.0 ≡ weighed_bytes l.weights.items (column (rows_of l.block) l.at) l.i
