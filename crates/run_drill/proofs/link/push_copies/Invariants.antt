-- so many copies are added
use Rattle.std.proofs.Common.{◌≡◌, ◌++◌, replicate}
use Rattle.run_drill.proofs.link.push_copies.Given as goal

abbrev pub invariant-loop-copy : goal.invariant-loop-copy
invariant-loop-copy l = l.out.items ≡ l.fn.out.items ++ replicate l._copy l.datagram
