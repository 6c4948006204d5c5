use Rattle.sender_plan.proofs.Apart.{one_identifier, other_identifiers}
use Rattle.sender_plan.proofs.laws.identifiers_tell_contents_apart.Goals as goal

pub returns-clause-same : goal.returns-clause-same
returns-clause-same c all a b is = one_identifier all a b is

pub returns-clause-differ : goal.returns-clause-differ
returns-clause-differ c all a b first second is = other_identifiers all a b first second is
