-- the files so far with those that are still drawn are those of all draws
use Rattle.std.proofs.Common.{◌≡◌, ◌-◌, ◌++◌}
use Rattle.run_drill.specs.Drill.{bodies, after_bodies}
use Rattle.run_drill.proofs.bodies.bodies.Given as goal

abbrev pub invariant-loop-file : goal.invariant-loop-file
invariant-loop-file l = record {
  bodies : l.out.items ++ bodies (l.count - l._file) l.generator.state ≡ bodies l.count l.fn.generator.state;
  state : after_bodies (l.count - l._file) l.generator.state ≡ after_bodies l.count l.fn.generator.state;
}
