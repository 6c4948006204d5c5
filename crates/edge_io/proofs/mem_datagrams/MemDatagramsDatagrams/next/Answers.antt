use Rattle.edge_io.proofs.Short.{short_left}
use Rattle.edge_io.proofs.mem_datagrams.MemDatagramsDatagrams.next.Goals as goal

pub returns-then-fails_now-clause-short : goal.returns-then-fails_now-clause-short
returns-then-fails_now-clause-short c =
    short_left c.args.self.now.source.datagrams.items c.args.self.now.source.at c.args.self.now.source.short
