use Rattle.edge_io.proofs.Texts.{left_short}
use Rattle.edge_io.proofs.log_reader.LogReaderDatagrams.next.Goals as goal

pub returns-clause-short : goal.returns-clause-short
returns-clause-short g c = λ _. left_short c.args.self.now.stage (g.B.Bytes.left c.args.self.now.source)
