use Rattle.run_receive.proofs.Numbers.{published_rising, told_rising}
use Rattle.run_receive.proofs.laws.numbers_never_fall.Goals as goal

pub returns-clause-told : goal.returns-clause-told
returns-clause-told c = told_rising

pub returns-clause-published : goal.returns-clause-published
returns-clause-published c = published_rising
