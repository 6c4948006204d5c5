use Rattle.run_receive.proofs.Statuses.{none_over_of, over_of}
use Rattle.run_receive.proofs.laws.over_budget_is_told.Goals as goal

pub returns-clause-over : goal.returns-clause-over
returns-clause-over c = over_of

pub returns-clause-none : goal.returns-clause-none
returns-clause-none c = none_over_of
