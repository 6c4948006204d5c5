use Rattle.edge_io.proofs.LogLaws.{has_datagrams, one_list}
use Rattle.edge_io.proofs.laws.datagrams.Goals as goal

pub returns-clause-has : goal.returns-clause-has
returns-clause-has c = has_datagrams

pub returns-clause-one : goal.returns-clause-one
returns-clause-one c = one_list
