-- as many have ended as are gone, and there is room for the others
use Rattle.std.specs.Prelude.{◌≡◌, ◌+◌, ◌≤◌, vec_len, vec_capacity}
use Rattle.run_readers.proofs.seats.end_all.Given as goal

abbrev pub invariant-loop-seat : goal.invariant-loop-seat
invariant-loop-seat g l = record {
  ended : vec_len l.ended + l.seat-iterator.rest.len ≡ l.initial.seat-iterator.rest.len;
  room : l.initial.seat-iterator.rest.len ≤ vec_capacity l.ended;
}
