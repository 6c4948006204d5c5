use Rattle.edge_io.proofs.Short.{short_lists}
use Rattle.edge_io.proofs.sure_emit.SureEmitEmit.send.Goals as goal

pub returns-in_err-copy-clause-short : goal.returns-in_err-copy-clause-short
returns-in_err-copy-clause-short c = λ _. short_lists c.args.self.now.sent.items c.args.self.now.short

pub returns-in_err-push-clause-short : goal.returns-in_err-push-clause-short
returns-in_err-push-clause-short c = λ _. short_lists c.args.self.now.sent.items c.args.self.now.short

pub returns-clause-short : goal.returns-clause-short
returns-clause-short c = λ _. short_lists c.args.self.now.sent.items c.args.self.now.short
