use Rattle.held_packets.proofs.Sent.{whole_is_sent}
use Rattle.held_packets.proofs.laws.whole_is_sent.Goals as goal

pub returns : goal.returns
returns c = whole_is_sent
