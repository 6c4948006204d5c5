use Rattle.sender_plan.proofs.Listed.{fit_listed}
use Rattle.sender_plan.proofs.laws.what_is_listed_is_fit.Goals as goal

pub returns : goal.returns
returns c = fit_listed
