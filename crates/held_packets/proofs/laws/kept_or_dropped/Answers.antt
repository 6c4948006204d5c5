use Rattle.held_packets.proofs.KeptSets.{kept_or_dropped}
use Rattle.held_packets.proofs.laws.kept_or_dropped.Goals as goal

pub returns : goal.returns
returns c = kept_or_dropped
