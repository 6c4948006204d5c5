use Rattle.edge_io.proofs.LogLaws.{cut_with_magic, one_cut}
use Rattle.edge_io.proofs.laws.cut.Goals as goal

pub returns-clause-has : goal.returns-clause-has
returns-clause-has c = cut_with_magic

pub returns-clause-one : goal.returns-clause-one
returns-clause-one c = one_cut
