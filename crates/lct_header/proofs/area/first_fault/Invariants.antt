use Rattle.std.proofs.Common.{◌≡◌, ◌%◌, List, ◌++◌, length, ℕ}
use Rattle.lct_header.specs.Extension.{Extension}
use Rattle.lct_header.specs.Extensions.{AreExtensions}
use Rattle.lct_header.proofs.area.first_fault.Given as goal

abbrev pub invariant-loop-rest : goal.invariant-loop-rest
invariant-loop-rest l = (front : List ℕ) × (es : List Extension) × AreExtensions front es × (l.area ≡ front ++ l.rest) × (length l.rest % 4 ≡ 0)

abbrev pub decreases-loop-rest : goal.decreases-loop-rest
decreases-loop-rest l = length l.rest
