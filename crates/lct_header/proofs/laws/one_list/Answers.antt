use Rattle.lct_header.proofs.Splitting.{one_list}
use Rattle.lct_header.proofs.laws.one_list.Goals as goal

pub returns : goal.returns
returns c = one_list
