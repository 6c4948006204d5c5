use Rattle.receiver_core.proofs.Datagrams.{by_packets}
use Rattle.receiver_core.proofs.laws.by_packets.Goals as goal

pub returns : goal.returns
returns c = by_packets
