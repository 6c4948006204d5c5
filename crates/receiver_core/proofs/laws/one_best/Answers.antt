use Rattle.receiver_core.proofs.Bests.{one_best}
use Rattle.receiver_core.proofs.laws.one_best.Goals as goal

pub returns : goal.returns
returns c = one_best
