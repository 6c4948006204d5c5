-- A packet's pieces, read one after the other.
use Rattle.std.specs.Prelude.{ℕ, List, [], ◌∷◌, Result, Ok, Err}
use Rattle.wire_bytes.specs.FirstFault.{first_fault, unless_fault}
use Rattle.alc_packet.specs.declared.refusal.Refusal.{Refusal}
use Rattle.alc_packet.specs.declared.refusal.Refusal.TheVariants.{NoFti, FtiTwice}
use Rattle.alc_packet.specs.Packet.{SymbolPacket}
use Rattle.alc_packet.specs.Pieces.{Pieces}
use Rattle.alc_packet.specs.Refusal.{lines, packet_in}

-- the content of the only EXT_FTI
abbrev pub only_of : List (List ℕ) → Result (List ℕ) Refusal
only_of [] = Err NoFti
only_of (content ∷ []) = Ok content
only_of (content ∷ other ∷ others) = Err FtiTwice

-- the packet at the places of the pieces, unless a line holds
unfoldable pub reading : Pieces → Result SymbolPacket Refusal
reading x = unless_fault (first_fault (lines x)) (packet_in x)
