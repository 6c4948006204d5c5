use Rattle.receiver_core.proofs.Agreement.{agreement, agreement_in_any_order}
use Rattle.receiver_core.proofs.laws.agreement.Goals as goal

pub returns-clause-kept : goal.returns-clause-kept
returns-clause-kept c = agreement

pub returns-clause-any_order : goal.returns-clause-any_order
returns-clause-any_order c = agreement_in_any_order
