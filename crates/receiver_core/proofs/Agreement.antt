-- What is installed after lists of packets: agreement, and that no number falls.
use Rattle.std.proofs.Common.{◌≡◌, ◌≤◌, ◌++◌, ℕ, List, subst, All}
use Rattle.alc_packet.specs.Packet.{SymbolPacket, IsPacket}
use Rattle.held_packets.specs.Held.{Held}
use Rattle.held_packets.specs.Verdict.{held_after}
use Rattle.held_packets.specs.Whole.{whole}
use Rattle.held_packets.specs.Session.{Session, IsSession, AreOf}
use Rattle.held_packets.specs.KeptSet.{AreOneSet, kept, gathered, set_count}
use Rattle.held_packets.proofs.Public.{same_whole, any_order, whole_grows}
use Rattle.receiver_core.specs.Best.{Objects, IsBestOf, NotOlder}
use Rattle.receiver_core.specs.BestOf.{best, installed_after}
use Rattle.receiver_core.proofs.Bests.{one_best, best_is_best, never_older}

-- where the same is whole, the same instance is the best
same_best : (first second : Held) → ((t : ℕ) → whole first t ≡ whole second t) → best first ≡ best second
same_best first second same =
    let functions : whole first ≡ whole second = λ i t. same t i in
    one_best (whole second) (best first) (best second) (subst (λ (objects : Objects). IsBestOf objects (best first)) functions (best_is_best first)) (best_is_best second)

pub agreement : (s : Session) (budget : ℕ) (ps qs : List SymbolPacket) → IsSession s → AreOf s ps → AreOf s qs
    → AreOneSet (kept budget ps) (kept budget qs) → installed_after budget ps ≡ installed_after budget qs
agreement s budget ps qs session first second one = same_best (held_after budget ps) (held_after budget qs) (same_whole s budget ps qs session first second one)

pub agreement_in_any_order : (s : Session) (budget : ℕ) (ps qs : List SymbolPacket)
    → IsSession s → AreOf s ps → AreOf s qs → AreOneSet ps qs → set_count (gathered ps) ≤ budget
    → installed_after budget ps ≡ installed_after budget qs
agreement_in_any_order s budget ps qs session first second one room =
    same_best (held_after budget ps) (held_after budget qs) (any_order s budget ps qs session first second one room)

pub never_back : (budget : ℕ) (ps qs : List SymbolPacket) → All IsPacket ps → All IsPacket qs → NotOlder (installed_after budget ps) (installed_after budget (ps ++ qs))
never_back budget ps qs first second =
    never_older (whole (held_after budget ps)) (whole (held_after budget (ps ++ qs))) (installed_after budget ps) (installed_after budget (ps ++ qs))
    (record { keeps = λ t bytes is. whole_grows budget ps qs first second t bytes is })
    (best_is_best (held_after budget ps)) (best_is_best (held_after budget (ps ++ qs)))
