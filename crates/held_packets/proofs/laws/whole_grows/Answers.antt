use Rattle.held_packets.proofs.Rising.{whole_grows}
use Rattle.held_packets.proofs.laws.whole_grows.Goals as goal

pub returns : goal.returns
returns c = whole_grows
