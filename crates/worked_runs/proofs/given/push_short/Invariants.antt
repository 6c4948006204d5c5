-- each datagram so far is short enough
use Rattle.std.proofs.Common.{◌≤◌}
use Rattle.std.specs.Prelude.{All, vec_len}
use Rattle.worked_runs.proofs.given.push_short.Given as goal

abbrev pub invariant-loop-datagram : goal.invariant-loop-datagram
invariant-loop-datagram l = All (λ d. vec_len d ≤ 65535) l.copies.items
