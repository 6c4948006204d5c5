use Rattle.run_send.proofs.Asked.{planned_of}
use Rattle.run_send.proofs.laws.what_is_asked_is_planned.Goals as goal

pub returns : goal.returns
returns c = planned_of
