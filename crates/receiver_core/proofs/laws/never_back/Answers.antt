use Rattle.receiver_core.proofs.Agreement.{never_back}
use Rattle.receiver_core.proofs.laws.never_back.Goals as goal

pub returns : goal.returns
returns c = never_back
