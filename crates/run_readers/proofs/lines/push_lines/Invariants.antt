-- the lines of the readers so far
use Rattle.std.specs.Prelude.{◌≡◌, ◌+◌, ◌-◌, ◌≤◌, string_bytes}
use Rattle.run_readers.specs.ReaderLines.{AreReaderLines}
use Rattle.run_readers.proofs.lines.push_lines.Given as goal

abbrev pub invariant-loop-one : goal.invariant-loop-one
invariant-loop-one g l = record {
  next : l.reader + l.one-iterator.rest.len ≡ l.initial.one-iterator.rest.len + 1;
  from : 1 ≤ l.reader;
  few : l.initial.one-iterator.rest.len ≤ 16;
  lines : AreReaderLines l.publisher (l.reader - 1) (string_bytes l.lines);
}
