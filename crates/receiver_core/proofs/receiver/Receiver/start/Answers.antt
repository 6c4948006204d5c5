use Rattle.receiver_core.proofs.Keeping.{settling_at_start}
use Rattle.receiver_core.proofs.receiver.Receiver.start.Goals as goal

pub invariant_of-result : goal.invariant_of-result
invariant_of-result c = settling_at_start c.in_ok-start.field-0 c.new.result c.new-2.result c.new.ensures.empty c.new-2.ensures.empty
