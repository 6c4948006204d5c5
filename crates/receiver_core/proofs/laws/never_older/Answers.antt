use Rattle.receiver_core.proofs.Bests.{never_older}
use Rattle.receiver_core.proofs.laws.never_older.Goals as goal

pub returns : goal.returns
returns c = never_older
