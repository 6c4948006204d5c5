-- The sum so far and the rest's words make the whole sum, and there is room for the rest.
use Rattle.std.proofs.Common.{◌≡◌, ◌+◌, ◌*◌, ◌^◌, ◌≤◌, length}
use Rattle.compound_object.specs.Checksum.{ones_sum, word_sum}
use Rattle.compound_object.proofs.sums.sum_from.Given as goal

abbrev pub invariant-loop-rest : goal.invariant-loop-rest
invariant-loop-rest l = record {
  whole : ones_sum (l.sum + word_sum l.rest) ≡ ones_sum (l.start + word_sum l.bytes);
  room : l.sum + 2 ^ 61 * length l.rest ≤ 2 ^ 16 + 2 ^ 61 * length l.bytes;
}

abbrev pub decreases-loop-rest : goal.decreases-loop-rest
decreases-loop-rest l = length l.rest
