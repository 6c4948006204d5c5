use Rattle.receiver_core.proofs.Beaten.{settling_swept, settling_lost}
use Rattle.receiver_core.proofs.receiver.Receiver.let_beaten_go.Goals as goal

pub invariant_of-self : goal.invariant_of-self
invariant_of-self c =
    let s = c.self.inside in
    settling_swept s.store s.standings s.waiting c.sweep.new.waiting s.settled s.lost s.installed c.in-Ok.ensures c.self.invariant

pub invariant_of-self-in-Err : goal.invariant_of-self-in-Err
invariant_of-self-in-Err c =
    let s = c.self.inside in
    settling_lost s.store s.standings s.waiting c.clear.new.self s.settled s.lost s.installed c.clear.ensures.empty c.self.invariant
