use Rattle.alc_packet.proofs.OneAnswer.{some_answer, one_answer, answered}
use Rattle.alc_packet.proofs.laws.one_reading.Goals as goal

pub returns-clause-some : goal.returns-clause-some
returns-clause-some c = some_answer

pub returns-clause-alone : goal.returns-clause-alone
returns-clause-alone c = one_answer

pub returns-clause-computed : goal.returns-clause-computed
returns-clause-computed c = answered
