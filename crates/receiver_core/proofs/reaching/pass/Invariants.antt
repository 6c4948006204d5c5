use Rattle.std.proofs.Common.{◌≡◌, length}
use Rattle.receiver_core.specs.Inner.Lists.{behind}
use Rattle.receiver_core.specs.Inner.Standings.{is_known}
use Rattle.receiver_core.proofs.reaching.pass.Given as goal

-- what will be left stays the same
abbrev pub invariant-loop-rest : goal.invariant-loop-rest
invariant-loop-rest l = behind (is_known l.standings) l.rest ≡ behind (is_known l.standings) l.fn.rest

abbrev pub decreases-loop-rest : goal.decreases-loop-rest
decreases-loop-rest l = length l.rest
