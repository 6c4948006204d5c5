use Rattle.std.proofs.Common.{[], ◌∷◌}
use Rattle.std.proofs.lemmas.List.Sums.{fold-append}
use Rattle.held_packets.specs.Held.{nothing_held}
use Rattle.held_packets.specs.Verdict.{step}
use Rattle.held_packets.proofs.laws.one_packet_more.Goals as goal

pub returns : goal.returns
returns c = λ budget ps p. fold-append (step budget) nothing_held ps (p ∷ [])
