use Rattle.lct_header.proofs.Spelled.{written_is_read}
use Rattle.lct_header.proofs.laws.written_is_read.Goals as goal

pub returns : goal.returns
returns c = written_is_read
