-- At each place, the weighed bytes so far.
use Rattle.std.proofs.Common.{◌≡◌, ℕ, ◌<◌, length, get_or}
use Rattle.oti_blocks.specs.Sent.{block_rows}
use Rattle.rs_code.specs.SourceRows.{column}
use Rattle.rs_code.specs.Weights.{weighed_bytes}
use Rattle.object_symbols.proofs.symbol.weigh_rows.Given as goal
use Rattle.oti_blocks.specs.Partition.{symbol_of}

abbrev pub invariant-loop-i : goal.invariant-loop-i
invariant-loop-i l = let rows = block_rows (record { oti = l.oti; bytes = l.bytes }) l.fn.sbn in record {
  full : length l.out ≡ symbol_of l.oti;
  sums : (at : ℕ) → at < symbol_of l.oti → get_or l.out at 0 ≡ weighed_bytes l.weights.weights.items (column rows at) l.i;
}
