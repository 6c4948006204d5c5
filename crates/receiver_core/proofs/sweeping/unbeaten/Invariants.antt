-- those that are left, with those of the others that will be, are all that are better
use Rattle.std.proofs.Common.{◌≡◌, ◌++◌, filter}
use Rattle.receiver_core.specs.Inner.Choice.{beats_installed}
use Rattle.receiver_core.proofs.sweeping.unbeaten.Given as goal

abbrev pub invariant-loop-candidate : goal.invariant-loop-candidate
invariant-loop-candidate l = record {
  all : l.left.items ++ filter (λ c. beats_installed l.installed c.number c.toi) l.candidate-iterator.rest.items
      ≡ filter (λ c. beats_installed l.installed c.number c.toi) l.fn.candidates.items;
}
