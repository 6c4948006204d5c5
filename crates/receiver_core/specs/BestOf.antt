-- The best instance of what is held, computed.
use Rattle.std.specs.Prelude.{ℕ, if◌then◌else◌, List, [], ◌∷◌, Option, Some, None}
use Rattle.std.specs.List.{filter_map}
use Rattle.std.specs.FinMap.{keys}
use Rattle.carousel_cid.specs.Instances.{Shown}
use Rattle.alc_packet.specs.Packet.{SymbolPacket}
use Rattle.held_packets.specs.Held.{Held}
use Rattle.held_packets.specs.Whole.{whole}
use Rattle.held_packets.specs.Verdict.{held_after}
use Rattle.receiver_core.specs.Best.{complete, is_better}

abbrev pub better_of : Shown → Option Shown → Shown
better_of i None = i
better_of i (Some j) = if is_better j i then j else i

-- the best of these
abbrev pub best_of : List Shown → Option Shown
best_of [] = None
best_of (i ∷ is) = Some (better_of i (best_of is))

-- the best instance of the descriptors that are complete among what is held
unfoldable pub best : Held → Option Shown
best held = best_of (filter_map (complete (whole held)) (keys held.objects))

-- what a receiver with this budget has installed after a list of packets of its session
abbrev pub installed_after : ℕ → List SymbolPacket → Option Shown
installed_after budget ps = best (held_after budget ps)
