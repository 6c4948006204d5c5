-- what passed so far with what passes of the rest is what passes of all
use Rattle.std.proofs.Common.{◌≡◌, ◌++◌, drop, length}
use Rattle.run_drill.specs.Drill.{passed, after_draws}
use Rattle.run_drill.proofs.link.passed.Given as goal

abbrev pub invariant-loop-datagram : goal.invariant-loop-datagram
invariant-loop-datagram l = record {
  passed : l.out.items ++ passed l.generator.state (drop l.datagram-index l.sent) ≡ passed l.fn.generator.state l.sent;
  state : after_draws (length (drop l.datagram-index l.sent)) l.generator.state ≡ after_draws (length l.sent) l.fn.generator.state;
}
