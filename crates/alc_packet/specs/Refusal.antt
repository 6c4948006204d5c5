-- Why a datagram is refused: the first line of the table that holds. Each line is a definition by itself, which gives
-- its refusal where the line holds; their order stands once, in the lists.
use Rattle.std.specs.Prelude.{◌≡◌, ℕ, ◌+◌, ◌<◌, ◌⊎◌, Bool, not, ◌&&◌, ◌==◌, nat_lt, nat_le, if◌then◌else◌, List, [], ◌∷◌, length}
use Rattle.std.specs.Prelude.{drop, slice_index, Option, Some, None, Result, option_map, position}
use Rattle.byteorder.specs.Endian.{big_number}
use Rattle.wire_bytes.specs.FirstFault.{fault_when, first_fault, unless_fault}
use Rattle.lct_header.specs.declared.fault.HeaderFault.{HeaderFault}
use Rattle.lct_header.specs.declared.fault.HeaderFault.TheVariants as header
use Rattle.lct_header.specs.Faults.{IsFirstFault}
use Rattle.oti_blocks.specs.declared.fault.OtiFault.{OtiFault}
use Rattle.oti_blocks.specs.declared.fault.OtiFault.TheVariants as information
use Rattle.oti_blocks.specs.Partition.{blocks, size_at, encoding_at, last_length, symbol_of}
use Rattle.oti_blocks.specs.Wire.{stated}
use Rattle.oti_blocks.specs.Faults.{fti_fault}
use Rattle.alc_packet.specs.declared.refusal.Refusal.{Refusal}
use Rattle.alc_packet.specs.declared.refusal.Refusal.TheVariants.{Short, Version, LengthField, ExtensionZero, ExtensionLong}
use Rattle.alc_packet.specs.declared.refusal.Refusal.TheVariants.{OtherScheme, NoToi, NoFti, FtiTwice, FtiLength, ZeroSymbol}
use Rattle.alc_packet.specs.declared.refusal.Refusal.TheVariants.{ZeroBlock, MaxN, ShortObject, TooManyBlocks, NoPayloadId}
use Rattle.alc_packet.specs.declared.refusal.Refusal.TheVariants.{BlockOut, SymbolOut, SymbolLength, FillNotZero}
use Rattle.alc_packet.specs.Packet.{SymbolPacket}
use Rattle.alc_packet.specs.Pieces.{Pieces, ArePieces}
use Rattle.alc_packet.specs.Datagram.{codepoint}

-- ---- 1 to 5: the header

abbrev pub of_header : HeaderFault → Refusal
of_header header.Short = Short
of_header header.Version = Version
of_header header.LengthField = LengthField
of_header (header.ExtensionZero at) = ExtensionZero at
of_header (header.ExtensionLong at) = ExtensionLong at

-- ---- 6 to 9: what the header says of a payload

abbrev pub other_scheme : Pieces → Option Refusal
other_scheme x = fault_when (not (x.header.codepoint == codepoint)) (OtherScheme x.header.codepoint)

abbrev pub no_toi : Pieces → Option Refusal
no_toi x = fault_when (x.header.toi_bits == 0) NoToi

abbrev pub no_fti : Pieces → Option Refusal
no_fti x = fault_when (length x.ftis == 0) NoFti

abbrev pub fti_twice : Pieces → Option Refusal
fti_twice x = fault_when (nat_lt 1 (length x.ftis)) FtiTwice

-- ---- 10 to 15: the transmission information

abbrev pub of_information : OtiFault → Refusal
of_information (information.FtiLength n) = FtiLength n
of_information information.ZeroSymbol = ZeroSymbol
of_information information.ZeroBlock = ZeroBlock
of_information information.MaxN = MaxN
of_information information.ShortObject = ShortObject
of_information information.TooManyBlocks = TooManyBlocks

-- the content of the EXT_FTI; where there is none an earlier line holds
abbrev pub content_of : List (List ℕ) → List ℕ
content_of [] = []
content_of (content ∷ others) = content

abbrev pub unsound : Pieces → Option Refusal
unsound x = option_map of_information (fti_fault (content_of x.ftis))

-- ---- 16: the payload ID

abbrev pub no_payload_id : Pieces → Option Refusal
no_payload_id x = fault_when (nat_lt (length x.payload) 4) NoPayloadId

-- ---- 17 to 20: the packet's values

abbrev pub block_out : SymbolPacket → Option Refusal
block_out p = fault_when (nat_le (blocks p.oti) p.sbn) (BlockOut p.sbn)

abbrev pub symbol_out : SymbolPacket → Option Refusal
symbol_out p = fault_when (nat_le (encoding_at p.oti p.sbn) p.esi) (SymbolOut p.esi)

-- its symbol is the last source symbol of the object
abbrev pub is_last : SymbolPacket → Bool
is_last p = p.sbn + 1 == blocks p.oti && p.esi + 1 == size_at p.oti p.sbn

abbrev pub is_whole : SymbolPacket → Bool
is_whole p = length p.symbol == symbol_of p.oti

-- it is the last one, and ends where the object ends
abbrev pub is_cut : SymbolPacket → Bool
is_cut p = is_last p && length p.symbol == last_length p.oti

abbrev pub symbol_length : SymbolPacket → Option Refusal
symbol_length p = fault_when (not (is_whole p) && not (is_cut p)) (SymbolLength (length p.symbol))

-- the place of the first byte from `start` on that isn't 0
abbrev pub bad_fill : ℕ → List ℕ → Option ℕ
bad_fill start symbol = option_map (λ i. start + i) (position (λ x. not (x == 0)) (drop start symbol))

abbrev pub fill_not_zero : SymbolPacket → Option Refusal
fill_not_zero p = if is_last p && is_whole p then option_map (λ at. FillNotZero at) (bad_fill (last_length p.oti) p.symbol) else None

-- ---- the order

abbrev pub packet_lines : SymbolPacket → List (Option Refusal)
packet_lines p = block_out p ∷ symbol_out p ∷ symbol_length p ∷ fill_not_zero p ∷ []

-- the packet, or the first line that holds of it
abbrev pub checked : SymbolPacket → Result SymbolPacket Refusal
checked p = unless_fault (first_fault (packet_lines p)) p

-- the packet's values at their places in the pieces
abbrev pub packet_in : Pieces → SymbolPacket
packet_in x = record {
  tsi = x.header.tsi;
  toi = x.header.toi;
  oti = stated (content_of x.ftis);
  sbn = big_number 3 x.payload;
  esi = slice_index x.payload 3;
  symbol = drop 4 x.payload;
  close = x.header.close_session;
}

abbrev pub lines : Pieces → List (Option Refusal)
lines x = other_scheme x ∷ no_toi x ∷ no_fti x ∷ fti_twice x ∷ unsound x ∷ no_payload_id x ∷ packet_lines (packet_in x)

-- The first line of the table that holds of the datagram: a fault of its header, or, where bytes follow the header, the
-- first of the other lines.
abbrev pub Refuses : List ℕ → Refusal → Type 0
Refuses d r =
    ((fault : HeaderFault) × IsFirstFault d fault × (r ≡ of_header fault))
    ⊎ ((x : Pieces) × ArePieces d x × (0 < length x.payload) × (first_fault (lines x) ≡ Some r))
