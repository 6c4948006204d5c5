-- At each place the weighed bytes so far, and a step for each row so far.
use Rattle.std.proofs.Common.{◌≡◌, ℕ, ◌+◌, ◌-◌, ◌^◌, ◌<◌, length, get_or, min}
use Rattle.rs_code.specs.SourceRows.{column, cut}
use Rattle.rs_code.specs.Weights.{weighed_bytes}
use Rattle.rs_solve.proofs.source.weigh_rows.Given as goal

abbrev pub invariant-loop-i : goal.invariant-loop-i
invariant-loop-i g l = record {
  long : length l.out ≡ l.size;
  sums : (at : ℕ) → at < l.size → get_or l.out at 0 ≡ weighed_bytes l.weights (column (cut (length l.weights) l.size l.rows) at) l.i;
  count : l.steps.count ≡ min (l.fn.steps.count + l.i) (2 ^ 64 - 1);
  ledger : l.steps.ledger ≡ l.fn.steps.ledger;
}
