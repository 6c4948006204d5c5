use Rattle.receiver_core.proofs.SessionPackets.{packets_where_spelled}
use Rattle.receiver_core.proofs.laws.packets_exactly_where_spelled.Goals as goal

pub returns : goal.returns
returns c = packets_where_spelled
