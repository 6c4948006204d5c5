-- Each clause is a lemma.
use Rattle.gf256.proofs.Powers.{power_lt, power_some}
use Rattle.gf256.proofs.laws.power_is_element.Goals as goal

pub returns-clause-element : goal.returns-clause-element
returns-clause-element w j = power_lt j

pub returns-clause-nonzero : goal.returns-clause-nonzero
returns-clause-nonzero w j = power_some j
