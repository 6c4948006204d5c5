use Rattle.held_packets.proofs.KeptSets.{all_kept}
use Rattle.held_packets.proofs.laws.all_kept.Goals as goal

pub returns : goal.returns
returns c = all_kept
