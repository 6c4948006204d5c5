-- The answer to a datagram. Each datagram has exactly one.
use Rattle.std.specs.Prelude.{List, ℕ, Result, Ok, Err}
use Rattle.alc_packet.specs.declared.datagram.Datagram.{Datagram}
use Rattle.alc_packet.specs.declared.datagram.Datagram.TheVariants.{Symbol, Control}
use Rattle.alc_packet.specs.declared.refusal.Refusal.{Refusal}
use Rattle.alc_packet.specs.Datagram.{Spells, SpellsControl}
use Rattle.alc_packet.specs.Refusal.{Refuses}

-- the datagram spells this packet or this control, or this line refuses it
abbrev pub Says : List ℕ → Result Datagram Refusal → Type 0
Says d (Ok (Symbol p)) = Spells d p
Says d (Ok (Control tsi close)) = SpellsControl d tsi close
Says d (Err r) = Refuses d r
