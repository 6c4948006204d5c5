-- What goes from the rest goes from the whole.
use Rattle.std.proofs.Common.{◌≡◌, length}
use Rattle.meta_text.specs.Text.{without_trailing}
use Rattle.meta_text.proofs.text.without_trailing.Given as goal

abbrev pub invariant-loop-rest : goal.invariant-loop-rest
invariant-loop-rest l = without_trailing l.rest ≡ without_trailing l.bytes

abbrev pub decreases-loop-rest : goal.decreases-loop-rest
decreases-loop-rest l = length l.rest
