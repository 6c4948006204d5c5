use Rattle.held_packets.specs.Verdict.{held_after}
use Rattle.held_packets.specs.KeptSet.{kept, gathered}
use Rattle.held_packets.proofs.Sent.{same_ready}
use Rattle.held_packets.proofs.KeptSets.{ends_of}
use Rattle.held_packets.proofs.laws.same_ready.Goals as goal

pub returns : goal.returns
returns c = λ s budget ps t x session are sent. same_ready s (held_after budget ps) (gathered (kept budget ps)) t x (ends_of s budget ps session are).agrees sent
