use Rattle.edge_io.proofs.Short.{short_left}
use Rattle.edge_io.proofs.sure_datagrams.SureDatagramsDatagrams.next.Goals as goal

pub returns-then-self-len-clause-short : goal.returns-then-self-len-clause-short
returns-then-self-len-clause-short c =
    λ _. short_left c.args.self.now.datagrams.items c.args.self.now.at c.args.self.now.short
