-- Answers that stop early.
use Rattle.std.specs.Prelude.{◌≡◌, Option, Some}
use Rattle.slice_join.specs.declared.fault.JoinFault.{JoinFault}
use Rattle.slice_join.specs.declared.stop.Stop.{Stop}
use Rattle.slice_join.specs.declared.stop.Stop.TheVariants.{Fault, Memory}

-- what it stops for is this fault, or want of memory
abbrev pub StopsFor : Option JoinFault → Stop → Type 0
StopsFor fault (Fault f) = fault ≡ Some f
StopsFor fault Memory = Unit {0}
