-- What a receiver makes of one datagram.
use Rattle.std.specs.Prelude.{ℕ, ◌+◌, ◌-◌, ◌^◌, ◌==◌, min, Bool, false, if◌then◌else◌, List, Option, Some, None, Result, Ok, Err}
use Rattle.std.specs.List.{filter_map}
use Rattle.alc_packet.specs.Packet.{SymbolPacket}
use Rattle.alc_packet.specs.Reply.{reply}
use Rattle.alc_packet.specs.declared.datagram.Datagram.{Datagram}
use Rattle.alc_packet.specs.declared.datagram.Datagram.TheVariants as datagrams
use Rattle.alc_packet.specs.declared.refusal.Refusal.{Refusal}
use Rattle.held_packets.specs.Held.{Held}
use Rattle.held_packets.specs.Verdict.{verdict, step, is_new, is_over_budget, row_steps}
use Rattle.receiver_core.specs.declared.taken.Taken.{Taken}
use Rattle.receiver_core.specs.declared.taken.Taken.TheVariants.{Refused, Elsewhere, Control, Packet}

-- a packet of the receiver's session gets its verdict
abbrev pub taken_packet : ℕ → ℕ → Held → SymbolPacket → Taken
taken_packet tsi budget held p = if p.tsi == tsi then Packet p.toi p.sbn p.esi (verdict budget held p) else Elsewhere p.tsi

abbrev pub taken_control : ℕ → ℕ → Bool → Taken
taken_control tsi t close = if t == tsi then Control close else Elsewhere t

abbrev pub taken_reply : ℕ → ℕ → Held → Result Datagram Refusal → Taken
taken_reply tsi budget held (Err refusal) = Refused refusal
taken_reply tsi budget held (Ok (datagrams.Symbol p)) = taken_packet tsi budget held p
taken_reply tsi budget held (Ok (datagrams.Control t close)) = taken_control tsi t close

-- the class of a datagram, of a receiver of this session with this budget that holds this
abbrev pub taken_of : ℕ → ℕ → Held → List ℕ → Taken
taken_of tsi budget held datagram = taken_reply tsi budget held (reply datagram)

-- the packet of this session that a datagram spells, where it spells one
abbrev pub packet_of_reply : ℕ → Result Datagram Refusal → Option SymbolPacket
packet_of_reply tsi (Err refusal) = None
packet_of_reply tsi (Ok (datagrams.Symbol p)) = if p.tsi == tsi then Some p else None
packet_of_reply tsi (Ok (datagrams.Control t close)) = None

abbrev pub packet_under : ℕ → List ℕ → Option SymbolPacket
packet_under tsi datagram = packet_of_reply tsi (reply datagram)

-- the packets of this session among the datagrams, in order
abbrev pub packets_of : ℕ → List (List ℕ) → List SymbolPacket
packets_of tsi datagrams = filter_map (packet_under tsi) datagrams

-- what is held after a packet, where there is one
abbrev pub held_with_packet : ℕ → Held → Option SymbolPacket → Held
held_with_packet budget held None = held
held_with_packet budget held (Some p) = step budget held p

abbrev pub held_with : ℕ → ℕ → Held → List ℕ → Held
held_with tsi budget held datagram = held_with_packet budget held (packet_under tsi datagram)

-- the row steps of a packet, where there is one
abbrev pub steps_with_packet : ℕ → Held → Option SymbolPacket → ℕ
steps_with_packet budget held None = 0
steps_with_packet budget held (Some p) = row_steps budget held p

abbrev pub steps_with : ℕ → ℕ → Held → List ℕ → ℕ
steps_with tsi budget held datagram = steps_with_packet budget held (packet_under tsi datagram)

-- the one answer for which memory is taken
abbrev pub takes_memory : Taken → Bool
takes_memory (Refused refusal) = false
takes_memory (Elsewhere t) = false
takes_memory (Control close) = false
takes_memory (Packet t b j kept) = is_new kept

abbrev pub is_drop : Taken → Bool
is_drop (Refused refusal) = false
is_drop (Elsewhere t) = false
is_drop (Control close) = false
is_drop (Packet t b j kept) = is_over_budget kept

-- the count of packets over the budget, which stands still at its end
abbrev pub drops_with : ℕ → Taken → ℕ
drops_with drops taken = if is_drop taken then min (drops + 1) (2 ^ 64 - 1) else drops
