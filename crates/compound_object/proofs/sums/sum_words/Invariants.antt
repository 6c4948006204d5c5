-- The sum so far and the rest's words make the whole sum.
use Rattle.std.proofs.Common.{◌≡◌, ◌+◌, ◌≤◌, length}
use Rattle.compound_object.specs.Checksum.{ones_sum, word_sum}
use Rattle.compound_object.proofs.sums.sum_words.Given as goal

abbrev pub invariant-loop-rest : goal.invariant-loop-rest
invariant-loop-rest l = record {
  small : l.sum ≤ 65535;
  whole : ones_sum (l.sum + word_sum l.rest) ≡ ones_sum (l.start + word_sum l.bytes);
}

abbrev pub decreases-loop-rest : goal.decreases-loop-rest
decreases-loop-rest l = length l.rest
