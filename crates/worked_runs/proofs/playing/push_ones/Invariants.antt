-- each size so far is at least one
use Rattle.std.proofs.Common.{◌≤◌}
use Rattle.std.specs.Prelude.{All}
use Rattle.worked_runs.proofs.playing.push_ones.Given as goal

abbrev pub invariant-loop-read : goal.invariant-loop-read
invariant-loop-read l = All (λ n. 1 ≤ n) l.sizes.items
