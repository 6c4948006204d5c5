-- The first fault of the rest is the first fault of the text.
use Rattle.std.proofs.Common.{◌≡◌, ◌+◌, ◌≤◌, length}
use Rattle.meta_text.specs.Lines.{numbered, lines_of}
use Rattle.meta_text.specs.Reading.{fault_in}
use Rattle.meta_text.proofs.reading.sound_pairs.Given as goal

abbrev pub invariant-loop-rest : goal.invariant-loop-rest
invariant-loop-rest l = record {
  count : l.number + length l.rest ≤ length l.bytes;
  pairs : l.pairs ≤ l.number;
  whole : fault_in (numbered (l.number + 1) (lines_of l.rest)) ≡ fault_in (numbered 1 (lines_of l.bytes));
}

abbrev pub decreases-loop-rest : goal.decreases-loop-rest
decreases-loop-rest l = length l.rest
