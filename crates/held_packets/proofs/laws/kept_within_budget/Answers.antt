use Rattle.held_packets.proofs.KeptSets.{turn}
use Rattle.held_packets.proofs.laws.kept_within_budget.Goals as goal

pub returns : goal.returns
returns c = λ s budget ps p session are is. (turn s budget ps p session are is).fits
