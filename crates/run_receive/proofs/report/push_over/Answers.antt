use Rattle.run_receive.proofs.Statuses.{not_zero}
use Rattle.run_receive.proofs.report.push_over.Goals as goal

pub returns : goal.returns
returns c = rw (not_zero c.args.drops c.if-drops-eq0.false, ← c.from.ensures) c.push_number.ensures
