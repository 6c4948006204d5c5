-- The one answer to each datagram, by computing: a law says that it is what is said of the datagram.
use Rattle.std.specs.Prelude.{ℕ, List, [], ◌∷◌, drop, Result, Ok, Err}
use Rattle.lct_header.specs.declared.fault.HeaderFault.{HeaderFault}
use Rattle.lct_header.specs.HeaderView.{HeaderView}
use Rattle.lct_header.specs.Answer.{answer}
use Rattle.lct_header.specs.Inner.Extensions.{extensions_in}
use Rattle.alc_packet.specs.declared.datagram.Datagram.{Datagram}
use Rattle.alc_packet.specs.declared.datagram.Datagram.TheVariants.{Symbol, Control}
use Rattle.alc_packet.specs.declared.refusal.Refusal.{Refusal}
use Rattle.alc_packet.specs.Packet.{SymbolPacket}
use Rattle.alc_packet.specs.Pieces.{Pieces, fti_contents}
use Rattle.alc_packet.specs.Refusal.{of_header}
use Rattle.alc_packet.specs.Inner.Reading.{reading}

abbrev pub as_datagram : Result SymbolPacket Refusal → Result Datagram Refusal
as_datagram (Ok p) = Ok (Symbol p)
as_datagram (Err r) = Err r

-- the pieces behind this header
abbrev pub pieces_of : HeaderView → List ℕ → Pieces
pieces_of v payload = record { header = v.header; ftis = fti_contents (extensions_in v.area); payload = payload }

abbrev pub payload_answer : HeaderView → List ℕ → Result Datagram Refusal
payload_answer v [] = Ok (Control v.header.tsi v.header.close_session)
payload_answer v (byte ∷ bytes) = as_datagram (reading (pieces_of v (byte ∷ bytes)))

abbrev pub view_answer : List ℕ → Result HeaderView HeaderFault → Result Datagram Refusal
view_answer d (Ok v) = payload_answer v (drop v.length d)
view_answer d (Err fault) = Err (of_header fault)

unfoldable pub reply : List ℕ → Result Datagram Refusal
reply d = view_answer d (answer d)
