-- each seat that is taken has a reader of its own, and there is room for the others
use Rattle.std.specs.Prelude.{◌≡◌, ◌+◌, ◌≤◌, vec_len, vec_capacity}
use Rattle.fcast_run.proofs.beside.receive_beside.Given as goal

abbrev pub invariant-loop-pass : goal.invariant-loop-pass
invariant-loop-pass g l = record {
  looks : vec_len l.looks ≡ l.pass-iterator.rest.len;
  seats : vec_len l.seats + l.pass-iterator.rest.len ≡ l.initial.pass-iterator.rest.len;
  room : l.initial.pass-iterator.rest.len ≤ vec_capacity l.seats;
}
