use Rattle.run_headline.proofs.WithinBudget.{none_over, best_says, best_answers}
use Rattle.run_headline.proofs.laws.nothing_is_over_budget.Goals as goal

pub returns-clause-none : goal.returns-clause-none
returns-clause-none g s c left session list = none_over s c left session list

pub returns-clause-status : goal.returns-clause-status
returns-clause-status g s c left session list = best_says s c left session list

pub returns-clause-answers : goal.returns-clause-answers
returns-clause-answers g s c left session list = best_answers s c left session list
