use Rattle.std.proofs.Common.{◌≡◌, ◌+◌, ◌-◌, subst, arith}
use Rattle.std.specs.Prelude.{string_bytes}
use Rattle.run_readers.specs.ReaderLines.{AreReaderLines}
use Rattle.run_readers.proofs.Noted.{one_line_more, may_note}
use Rattle.run_readers.proofs.lines.push_lines.Goals as goal

pub loop-one-preserved : goal.loop-one-preserved
loop-one-preserved g c =
    let before = c.loop-one.invariant in
    let reader = c.loop-one.reader in
    let one : reader ≡ (reader - 1) + 1 = omega (arith, before.from) in
    let next : (reader - 1) + 1 ≡ (reader + 1) - 1 = omega (arith, before.from) in
    record {
      next = omega (arith, before.next, c.in-Some.ensures.steps.1);
      from = omega arith;
      few = before.few;
      lines = subst (λ n. AreReaderLines c.args.publisher.now n (string_bytes c.push_line.new.lines)) next
          (one_line_more c.args.publisher.now (reader - 1) reader c.noted.result c.in_ok-last.last (string_bytes c.loop-one.lines) (string_bytes c.push_line.new.lines)
          before.lines one (may_note c.noted.result c.args.numbers.now c.args.publisher.now c.requires.numbers c.noted.ensures)
          c.in_ok-last.ensures c.in_ok-push_line.ensures);
    }
