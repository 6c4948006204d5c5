-- The lines of a dump: what each datagram says, and why the list wasn't read to its end. Numbers are decimal.
use Rattle.std.specs.Prelude.{ℕ, ◌+◌, Bool, false, List, [], ◌∷◌, ◌++◌, length, take, Option, Some, None, Result, Ok, Err, codes}
use Rattle.hex.specs.Hex.{encode_lower}
use Rattle.oti_blocks.specs.Partition.{ObjectInformation, length_of, symbol_of, max_block_of, max_n_of}
use Rattle.alc_packet.specs.Packet.{SymbolPacket}
use Rattle.alc_packet.specs.Code.{code_of, detail_of}
use Rattle.alc_packet.specs.Reply.{reply}
use Rattle.alc_packet.specs.declared.datagram.Datagram.{Datagram}
use Rattle.alc_packet.specs.declared.datagram.Datagram.TheVariants.{Symbol, Control}
use Rattle.alc_packet.specs.declared.refusal.Refusal.{Refusal}
use Rattle.edge_io.specs.declared.place.Place.TheVariants.{Log}
use Rattle.run_base.specs.declared.bound.Bound.TheVariants.{Most}
use Rattle.run_base.specs.declared.status.Status.{Status}
use Rattle.run_base.specs.declared.status.Status.TheVariants as statuses
use Rattle.run_base.specs.declared.ending.Ending.{Ending}
use Rattle.run_base.specs.declared.ending.Ending.TheVariants.{End, Torn, TooMany}
use Rattle.run_base.specs.Bounds.{asked, ending_of}
use Rattle.run_base.specs.Outcome.{Outcome, Uses, Streams, text_outcome}
use Rattle.watch_list.specs.EventLines.{labelled, truth}
use Rattle.run_base.specs.Texts.{line, ending_line}

-- the first 16 bytes in lower case, or all where there are fewer; a dash where there is none
abbrev pub hexadecimal : List ℕ → List ℕ
hexadecimal [] = codes "-"
hexadecimal (b ∷ bs) = encode_lower (take 16 (b ∷ bs))

-- where a symbol belongs: its session, its object, its source block, its place there
unfoldable pub place_text : SymbolPacket → List ℕ
place_text p =
    labelled (codes "symbol tsi ") p.tsi ++ labelled (codes " toi ") p.toi
    ++ labelled (codes " sbn ") p.sbn ++ labelled (codes " esi ") p.esi

-- its object's transmission information
unfoldable pub information_text : ObjectInformation → List ℕ
information_text o =
    labelled (codes " length ") (length_of o) ++ labelled (codes " size ") (symbol_of o)
    ++ labelled (codes " block ") (max_block_of o) ++ labelled (codes " maxn ") (max_n_of o)

unfoldable pub close_text : Bool → List ℕ
close_text close = labelled (codes " close ") (truth close)

unfoldable pub data_text : List ℕ → List ℕ
data_text bytes = codes " data " ++ hexadecimal bytes

abbrev pub symbol_text : SymbolPacket → List ℕ
symbol_text p =
    place_text p ++ information_text p.oti ++ labelled (codes " bytes ") (length p.symbol) ++ close_text p.close ++ data_text p.symbol

abbrev pub control_text : ℕ → Bool → List ℕ
control_text tsi close = codes "control" ++ labelled (codes " tsi ") tsi ++ close_text close

abbrev pub refusal_text : Refusal → List ℕ → List ℕ
refusal_text refusal datagram =
    labelled (codes "refused ") (code_of refusal) ++ labelled (codes " ") (detail_of refusal) ++ data_text datagram

abbrev pub reply_text : Result Datagram Refusal → List ℕ → List ℕ
reply_text (Ok (Symbol p)) datagram = symbol_text p
reply_text (Ok (Control tsi close)) datagram = control_text tsi close
reply_text (Err refusal) datagram = refusal_text refusal datagram

-- the line of a datagram, of which so many stand in front
abbrev pub dump_line : ℕ → List ℕ → List ℕ
dump_line place datagram = line (labelled [] place ++ codes " " ++ reply_text (reply datagram) datagram)

-- the lines of datagrams, the first of which stands at this place
abbrev pub dump_lines : ℕ → List (List ℕ) → List ℕ
dump_lines place [] = []
dump_lines place (datagram ∷ datagrams) = dump_line place datagram ++ dump_lines (place + 1) datagrams

abbrev pub dump_status : Ending → Status
dump_status End = statuses.Done
dump_status (Torn at) = statuses.Torn
dump_status TooMany = statuses.TooMany

abbrev pub dump_statuses : List Status
dump_statuses = statuses.Done ∷ statuses.Torn ∷ statuses.TooMany ∷ []

-- a dump takes the log's datagrams, and writes while it does
abbrev pub dump_uses : Uses
dump_uses = record {
  datagrams = Some Log;
  emit = None;
  files = false;
  shelf = false;
  watchers = false;
  writes = Streams;
  statuses = dump_statuses;
}

-- of at most so many of the datagrams that are left, where their log is torn there
unfoldable pub dumped : ℕ → List (List ℕ) → Option ℕ → Outcome
dumped most left torn = text_outcome
    (dump_status (ending_of (Most most) left torn))
    (dump_lines 0 (take most left) ++ ending_line (ending_of (Most most) left torn))
    (asked (Most most))
