-- The elements below `at` are added.
use Rattle.std.proofs.Common.{◌≡◌, ◌-◌, ◌≤◌, length, take}
use Rattle.gf256.specs.Row.{added_row}
use Rattle.gf256.proofs.row.row_add.Given as goal

abbrev pub invariant-loop-dst : goal.invariant-loop-dst
invariant-loop-dst l = record { sums : l.dst ≡ added_row l.by.0 (take l.at l.src) l.fn.dst; within : l.at ≤ length l.dst }

abbrev pub decreases-loop-dst : goal.decreases-loop-dst
decreases-loop-dst l = length l.dst - l.at

abbrev pub invariant-loop-at : goal.invariant-loop-at
invariant-loop-at l = record { sums : l.dst ≡ added_row l.by.0 (take l.at l.src) l.fn.dst; within : l.at ≤ length l.dst }

abbrev pub decreases-loop-at : goal.decreases-loop-at
decreases-loop-at l = length l.dst - l.at
