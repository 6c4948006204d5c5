use Rattle.edge_io.proofs.Short.{short_lists}
use Rattle.edge_io.proofs.mem_emit.MemEmitEmit.send.Goals as goal

pub returns-then-fails_now-clause-short : goal.returns-then-fails_now-clause-short
returns-then-fails_now-clause-short c = short_lists c.args.self.now.sink.sent.items c.args.self.now.sink.short
