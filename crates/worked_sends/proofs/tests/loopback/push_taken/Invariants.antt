-- each datagram so far is short enough
use Rattle.std.proofs.Common.{◌≤◌}
use Rattle.std.specs.Prelude.{All, vec_len}
use Rattle.worked_sends.proofs.tests.loopback.push_taken.Given as goal

abbrev pub invariant-loop-datagram : goal.invariant-loop-datagram
invariant-loop-datagram g l = All (λ d. vec_len d ≤ 65535) l.datagrams.items
