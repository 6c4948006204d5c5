use Rattle.std.proofs.Common.{length, sym, arith}
use Rattle.std.proofs.lemmas.List.{take_rest, drop_all}
use Rattle.meta_text.proofs.Cuts.{lines_at, lines_none}
use Rattle.meta_text.proofs.lines.split_line.Goals as goal

pub returns-in-Some-clause-lines : goal.returns-in-Some-clause-lines
returns-in-Some-clause-lines c = rw (take_rest, c.without_return.ensures) (lines_at c.args.bytes.now c.in-Some.at (sym c.in-Some.ensures))

pub returns-in-None-clause-lines : goal.returns-in-None-clause-lines
returns-in-None-clause-lines c =
    let bytes = c.args.bytes.now in
    rw (
      take_rest bytes (length bytes),
      drop_all (length bytes) bytes (omega arith),
      c.without_return-in-None.ensures,
    ) (lines_none bytes c.requires (sym c.in-None.ensures))
