use Rattle.std.proofs.Common.{◌≡◌, drop, None}
use Rattle.std.specs.Prelude.{option_map}
use Rattle.std.specs.List.{fold}
use Rattle.receiver_core.specs.Inner.Choice.{pick}
use Rattle.receiver_core.proofs.choosing.choose.Given as goal

-- the choice from the best so far over what is left is the choice of all
abbrev pub invariant-loop-candidate : goal.invariant-loop-candidate
invariant-loop-candidate l = fold pick (option_map (λ c. c.now) l.best) (drop l.candidate-index l.candidates) ≡ fold pick None l.candidates
