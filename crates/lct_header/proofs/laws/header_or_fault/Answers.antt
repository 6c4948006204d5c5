use Rattle.lct_header.proofs.Deciding.{header_or_fault}
use Rattle.lct_header.proofs.Answering.{not_both, one_fault}
use Rattle.lct_header.proofs.laws.header_or_fault.Goals as goal

pub returns-clause-some : goal.returns-clause-some
returns-clause-some c = header_or_fault

pub returns-clause-not_both : goal.returns-clause-not_both
returns-clause-not_both c = not_both

pub returns-clause-one_fault : goal.returns-clause-one_fault
returns-clause-one_fault c = one_fault
