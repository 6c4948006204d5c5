use Rattle.std.proofs.Common.{sym}
use Rattle.alc_packet.proofs.OneAnswer.{one_answer, answered}
use Rattle.alc_packet.proofs.reading.read.Goals as goal

pub returns-clause-only : goal.returns-clause-only
returns-clause-only c answer says = one_answer c.args.bytes.now c.datagram_of.result answer c.datagram_of.ensures says

pub returns-clause-exact : goal.returns-clause-exact
returns-clause-exact c = sym (answered c.args.bytes.now c.datagram_of.result c.datagram_of.ensures)
