use Rattle.receiver_core.proofs.Keeping.{settling_announced}
use Rattle.receiver_core.proofs.settling.find.Goals as goal

pub find_anew-requires : goal.find_anew-requires
find_anew-requires c = settling_announced c.args.store.now c.args.standings.now c.args.waiting.now c.args.settled c.args.lost c.args.installed.now c.requires.settling
