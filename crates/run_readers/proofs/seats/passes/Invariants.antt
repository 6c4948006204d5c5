-- one pass for each reader so far
use Rattle.std.specs.Prelude.{◌≡◌, vec_len}
use Rattle.run_readers.proofs.seats.passes.Given as goal

abbrev pub invariant-loop-place : goal.invariant-loop-place
invariant-loop-place g l = vec_len l.passes ≡ l.place
