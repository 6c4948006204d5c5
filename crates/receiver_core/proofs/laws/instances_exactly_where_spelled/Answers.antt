use Rattle.receiver_core.proofs.InstanceOf.{best_where_instance, complete_where_instance}
use Rattle.receiver_core.proofs.laws.instances_exactly_where_spelled.Goals as goal

pub returns-clause-complete : goal.returns-clause-complete
returns-clause-complete c = complete_where_instance

pub returns-clause-best : goal.returns-clause-best
returns-clause-best c = best_where_instance
