use Rattle.edge_io.proofs.LogLaws.{has_torn_place, one_torn_place}
use Rattle.edge_io.proofs.laws.torn_place.Goals as goal

pub returns-clause-has : goal.returns-clause-has
returns-clause-has c = has_torn_place

pub returns-clause-one : goal.returns-clause-one
returns-clause-one c = one_torn_place
