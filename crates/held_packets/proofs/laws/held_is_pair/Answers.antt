use Rattle.held_packets.proofs.Pairs.{held_is_pair}
use Rattle.held_packets.proofs.laws.held_is_pair.Goals as goal

pub returns : goal.returns
returns c = held_is_pair
