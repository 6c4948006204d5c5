-- The rows below m are settled, and the steps of the missing ones counted.
use Rattle.std.proofs.Common.{◌≡◌, ℕ, ◌+◌, ◌-◌, ◌*◌, ◌^◌, ◌<◌, length, min}
use Rattle.rs_solve.specs.Solution.{missing_below, row_at}
use Rattle.rs_solve.specs.Inner.Values.{IsRowAt}
use Rattle.rs_solve.proofs.solver.solve_rows.Given as goal

abbrev pub invariant-loop-m : goal.invariant-loop-m
invariant-loop-m g l = record {
  whole : length l.block ≡ length l.fn.block;
  rows : (j : ℕ) → j < l.m → IsRowAt l.size l.places l.rows j (row_at l.size l.block j);
  count : l.steps.count ≡ min (l.fn.steps.count + missing_below l.places l.m * length l.places) (2 ^ 64 - 1);
  ledger : l.steps.ledger ≡ l.fn.steps.ledger;
}
