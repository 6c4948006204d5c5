-- The law is a lemma.
use Rattle.rs_solve.proofs.Through.{one_solution_only}
use Rattle.rs_solve.proofs.laws.one_solution.Goals as goal

pub returns : goal.returns
returns w size places rows b c are bb bc sb sc = one_solution_only size places rows b c are bb bc sb sc
