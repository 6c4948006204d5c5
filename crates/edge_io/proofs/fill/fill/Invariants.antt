use Rattle.std.proofs.Common.{◌≡◌, ◌-◌, ◌^◌, ◌<◌, ◌≤◌, length, take, drop}
use Rattle.edge_io.proofs.fill.fill.Given as goal

-- So many bytes of those that were left at first are in the buffer, and the others are left.
abbrev pub invariant-loop-got : goal.invariant-loop-got
invariant-loop-got g l = let B = g.B.Bytes in record {
  within : l.got ≤ length l.out;
  told : B.told l.fn.source → B.told l.source;
  room : B.told l.fn.source → l.got ≤ length (B.left l.fn.source);
  front : B.told l.fn.source → take l.got l.out ≡ take l.got (B.left l.fn.source);
  rest : B.told l.fn.source → B.left l.source ≡ drop l.got (B.left l.fn.source);
  fewer : B.told l.fn.source → 0 < l.got → length (B.left l.fn.source) < 2 ^ 64;
  grows : B.faults l.fn.source ≤ B.faults l.source;
}

abbrev pub decreases-loop-got : goal.decreases-loop-got
decreases-loop-got g l = length l.out - l.got
