-- The pairs so far and what the rest says make what the text says.
use Rattle.std.proofs.Common.{◌≡◌, ◌+◌, ◌≤◌, length}
use Rattle.meta_text.specs.Lines.{numbered, lines_of}
use Rattle.meta_text.specs.Reading.{said, reading}
use Rattle.meta_text.proofs.Runs.{with_front}
use Rattle.meta_text.proofs.reading.collect.Given as goal

abbrev pub invariant-loop-rest : goal.invariant-loop-rest
invariant-loop-rest l = record {
  count : l.number + length l.rest ≤ length l.bytes;
  whole : with_front l.fields (said (numbered (l.number + 1) (lines_of l.rest))) ≡ reading l.bytes;
}

abbrev pub decreases-loop-rest : goal.decreases-loop-rest
decreases-loop-rest l = length l.rest
