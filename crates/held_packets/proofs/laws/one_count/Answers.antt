use Rattle.held_packets.specs.Verdict.{held_after}
use Rattle.held_packets.specs.KeptSet.{kept, gathered}
use Rattle.held_packets.proofs.SetCounts.{counts_agree}
use Rattle.held_packets.proofs.KeptSets.{ends_of}
use Rattle.held_packets.proofs.laws.one_count.Goals as goal

pub returns-clause-count : goal.returns-clause-count
returns-clause-count c = λ s budget ps session are. counts_agree s (held_after budget ps) (gathered (kept budget ps)) session (ends_of s budget ps session are).agrees

pub returns-clause-within : goal.returns-clause-within
returns-clause-within c = λ s budget ps session are. (ends_of s budget ps session are).within
