use Rattle.held_packets.specs.Verdict.{held_after}
use Rattle.receiver_core.proofs.Bests.{best_is_best}
use Rattle.receiver_core.proofs.laws.best_is_best.Goals as goal

pub returns-clause-held : goal.returns-clause-held
returns-clause-held c = best_is_best

pub returns-clause-installed : goal.returns-clause-installed
returns-clause-installed c = λ budget ps. best_is_best (held_after budget ps)
