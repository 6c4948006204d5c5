use Rattle.held_packets.proofs.Sets.{same_whole, any_order}
use Rattle.held_packets.proofs.laws.agreement.Goals as goal

pub returns-clause-kept : goal.returns-clause-kept
returns-clause-kept c = same_whole

pub returns-clause-any_order : goal.returns-clause-any_order
returns-clause-any_order c = any_order
