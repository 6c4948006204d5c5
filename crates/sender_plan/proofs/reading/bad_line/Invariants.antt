-- The first bad line of the rest is that of the text.
use Rattle.std.proofs.Common.{◌≡◌, ◌+◌, ◌≤◌, length}
use Rattle.meta_text.specs.Lines.{lines_of}
use Rattle.sender_plan.specs.Catalog.{bad_line}
use Rattle.sender_plan.proofs.reading.bad_line.Given as goal

abbrev pub invariant-loop-rest : goal.invariant-loop-rest
invariant-loop-rest l = record {
  count : l.number + length l.rest ≤ length l.bytes;
  before : l.before ≤ l.number;
  whole : bad_line (l.number + 1) l.before (lines_of l.rest) ≡ bad_line 1 0 (lines_of l.bytes);
}

abbrev pub decreases-loop-rest : goal.decreases-loop-rest
decreases-loop-rest l = length l.rest
