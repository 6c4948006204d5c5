use Rattle.lct_header.proofs.Views.{length_is, rest_is}
use Rattle.lct_header.proofs.laws.what_follows.Goals as goal

pub returns-clause-length : goal.returns-clause-length
returns-clause-length c = length_is

pub returns-clause-rest : goal.returns-clause-rest
returns-clause-rest c = rest_is
