-- Packets that make an instance ready.
use Rattle.std.specs.Prelude.{◌≡◌, ℕ, true, ◌∷◌, Some, All}
use Rattle.carousel_cid.specs.Instances.{Shown}
use Rattle.held_packets.specs.Held.{Held}
use Rattle.held_packets.specs.Ready.{is_ready}
use Rattle.held_packets.specs.Session.{Session, Sent}

-- the session's object with this identifier has in every source block at least k distinct symbols in the set
abbrev pub IsReadyIn : Session → Held → ℕ → Type 0
IsReadyIn s set toi = (x : Sent) → s toi ≡ Some x → is_ready set toi x.oti ≡ true

-- and so has each object of the instance: its descriptor's, and those of its files
abbrev pub AreReadyIn : Session → Held → Shown → Type 0
AreReadyIn s set i = All (IsReadyIn s set) (i.descriptor_toi ∷ i.listed)
