use Rattle.lct_header.proofs.Answering.{one_header}
use Rattle.lct_header.proofs.laws.one_header.Goals as goal

pub returns : goal.returns
returns c = one_header
