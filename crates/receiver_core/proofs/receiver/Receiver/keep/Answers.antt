use Rattle.receiver_core.proofs.Keeping.{settling_kept}
use Rattle.receiver_core.proofs.receiver.Receiver.keep.Goals as goal

pub invariant_of-self-2 : goal.invariant_of-self-2
invariant_of-self-2 g c =
    settling_kept c.self.inside.store c.keep.new.self c.args.packet.now c.in_ok-kept.kept
    c.self.inside.standings c.self.inside.waiting c.self.inside.settled c.self.inside.lost c.self.inside.installed
    c.ready-listed.ensures.listed c.ready-listed.ensures.pair c.requires c.in_ok-kept.ensures.held c.in_ok-kept.ensures.ready c.self.invariant
