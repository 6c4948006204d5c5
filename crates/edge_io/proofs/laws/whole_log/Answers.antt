use Rattle.edge_io.proofs.LogLaws.{log_datagrams, whole_log}
use Rattle.edge_io.proofs.laws.whole_log.Goals as goal

pub returns-clause-datagrams : goal.returns-clause-datagrams
returns-clause-datagrams c = log_datagrams

pub returns-clause-whole : goal.returns-clause-whole
returns-clause-whole c = whole_log
