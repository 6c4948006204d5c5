-- Each clause is a lemma.
use Rattle.rs_solve.proofs.Through.{one_column_some, one_column_only}
use Rattle.rs_solve.proofs.laws.one_column.Goals as goal

pub returns-clause-exists : goal.returns-clause-exists
returns-clause-exists w places bytes are all len = one_column_some places bytes are all len

pub returns-clause-unique : goal.returns-clause-unique
returns-clause-unique w places bytes c d are bc bd lc ld sc sd = one_column_only places bytes c d are bc bd lc ld sc sd
