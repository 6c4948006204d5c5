use Rattle.meta_text.proofs.Written.{reading-written}
use Rattle.meta_text.proofs.laws.reads_back.Goals as goal

pub returns : goal.returns
returns c pairs are = reading-written pairs are
