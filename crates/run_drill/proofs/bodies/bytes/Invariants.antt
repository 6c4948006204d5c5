-- the bytes so far with those that are still drawn are those of all draws
use Rattle.std.proofs.Common.{◌≡◌, ◌-◌, ◌++◌}
use Rattle.run_drill.specs.Drill.{drawn_bytes, after_draws}
use Rattle.run_drill.proofs.bodies.bytes.Given as goal

abbrev pub invariant-loop-byte : goal.invariant-loop-byte
invariant-loop-byte l = record {
  bytes : l.out.items ++ drawn_bytes (l.count - l._byte) l.generator.state ≡ drawn_bytes l.count l.fn.generator.state;
  state : after_draws (l.count - l._byte) l.generator.state ≡ after_draws l.count l.fn.generator.state;
}
