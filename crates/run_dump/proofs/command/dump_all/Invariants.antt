-- the lines of the datagrams before this one are written
use Rattle.std.proofs.Common.{◌≡◌, ◌≤◌, ◌++◌, length, take}
use Rattle.run_base.specs.Bounds.{less, limit}
use Rattle.run_base.proofs.Public.{AreTaken}
use Rattle.run_dump.specs.Dump.{dump_lines}
use Rattle.run_dump.proofs.command.dump_all.Given as goal

abbrev pub invariant-loop-size : goal.invariant-loop-size
invariant-loop-size g l = let D = g.D.Datagrams in let T = g.T.Text in record {
  bound : l.bound ≡ less l.fn.bound l.index;
  within : l.index ≤ limit l.fn.bound;
  told : D.told l.fn.datagrams → D.told l.datagrams;
  taken : D.told l.fn.datagrams → AreTaken l.index (D.left l.fn.datagrams) (D.torn l.fn.datagrams) (D.left l.datagrams) (D.torn l.datagrams);
  told_text : T.told l.fn.text → T.told l.text;
  written : D.told l.fn.datagrams → T.told l.fn.text → T.written l.text ≡ T.written l.fn.text ++ dump_lines 0 (take l.index (D.left l.fn.datagrams));
  connected : D.connected l.datagrams ≡ D.connected l.fn.datagrams;
  grows : D.faults l.fn.datagrams ≤ D.faults l.datagrams;
  grows_text : T.faults l.fn.text ≤ T.faults l.text;
  room : 65535 ≤ length l.buffer;
}

abbrev pub decreases-loop-size : goal.decreases-loop-size
decreases-loop-size g l = limit l.bound
