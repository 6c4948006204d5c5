use Rattle.std.proofs.Common.{rules}
use Rattle.edge_io.proofs.LogWrites.{send_in_order}
use Rattle.edge_io.proofs.log_writer.LogWriterEmit.send.Goals as goal

pub returns-clause-told : goal.returns-clause-told
returns-clause-told g c = λ told order. send_in_order c.args.self.now.begun (g.T.Text.written c.args.self.now.sink) _ c.args.datagram.now order c.requires (search rules)
