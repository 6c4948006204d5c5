-- Each datagram has exactly one answer.
use Rattle.std.proofs.Common.{◌≡◌, ℕ, ◌<◌, ◌≤◌, not, List, [], ◌∷◌, ◌++◌, length, get_or, drop, None, Option, Result, Ok, Err, refl, sym, ap, ◌∙◌, arith, inl, inr}
use Rattle.std.specs.Prelude.{option_map}
use Rattle.std.proofs.Math.Nat.{mod-eq_of_lt}
use Rattle.std.proofs.lemmas.Bool.{eq-eqb, ne_eqb, le-ltb}
use Rattle.byteorder.specs.Endian.{big_number, big_bytes}
use Rattle.byteorder.specs.Numbers.{big_number-reads_back}
use Rattle.wire_bytes.specs.Bytes.{AreBytes}
use Rattle.wire_bytes.specs.FirstFault.{first_fault, unless_fault}
use Rattle.wire_bytes.proofs.Public.{past, fault_is_none}
use Rattle.lct_header.specs.Header.{Header}
use Rattle.lct_header.specs.HeaderView.{HeaderView, BeginsWithHeader}
use Rattle.lct_header.specs.Inner.Extensions.{extensions_in}
use Rattle.lct_header.proofs.Public.{extensions_in-area, rest_is, answer_view, answer_fault, header_or_fault}
use Rattle.oti_blocks.specs.Wire.{stated}
use Rattle.oti_blocks.specs.Faults.{fti_fault}
use Rattle.oti_blocks.proofs.Public.{stated-fti_content, no_fti_fault}
use Rattle.alc_packet.specs.declared.datagram.Datagram.{Datagram}
use Rattle.alc_packet.specs.declared.datagram.Datagram.TheVariants.{Symbol, Control}
use Rattle.alc_packet.specs.declared.refusal.Refusal.{Refusal}
use Rattle.alc_packet.specs.Packet.{SymbolPacket}
use Rattle.alc_packet.specs.Pieces.{Pieces, ArePieces, fti_contents}
use Rattle.alc_packet.specs.Datagram.{Spells}
use Rattle.alc_packet.specs.Refusal.{of_header, other_scheme, no_toi, no_fti, fti_twice, of_information, content_of, unsound}
use Rattle.alc_packet.specs.Refusal.{no_payload_id, packet_lines, packet_in, lines}
use Rattle.alc_packet.specs.Answer.{Says}
use Rattle.alc_packet.specs.Inner.Reading.{reading}
use Rattle.alc_packet.specs.Reply.{as_datagram, pieces_of, payload_answer, view_answer, reply}
use Rattle.alc_packet.proofs.Packets.{made, places_fit}
use Rattle.alc_packet.proofs.Lines.{lines_from_packet}
use Rattle.alc_packet.proofs.Readings.{refused_by}
use Rattle.alc_packet.proofs.Saying.{read_spells, read_refuses}

-- ---- past the header, and past all pieces

past_header : (d : List ℕ) (v : HeaderView) (rest : List ℕ) → BeginsWithHeader d v rest → reply d ≡ payload_answer v rest
unfolding reply
past_header d v rest begins = ap (view_answer d) (answer_view d v (rest, begins)) ∙ ap (payload_answer v) (sym (rest_is d v rest begins))

some_payload : (v : HeaderView) (payload : List ℕ) → 0 < length payload → payload_answer v payload ≡ as_datagram (reading (pieces_of v payload))
some_payload v [] more = absurd (omega arith)
some_payload v (byte ∷ bytes) more = refl

same_pieces : (x : Pieces) (header : Header) (ftis : List (List ℕ)) → header ≡ x.header
    → ftis ≡ x.ftis → ◌≡◌ {A = Pieces} (record { header = header; ftis = ftis; payload = x.payload }) x
same_pieces x header ftis a b = rw (a, b) refl

past_pieces : (d : List ℕ) (x : Pieces) → ArePieces d x → 0 < length x.payload → reply d ≡ as_datagram (reading x)
past_pieces d x are more =
    past_header d are.view x.payload are.begins
    ∙ some_payload are.view x.payload more
    ∙ ap (λ (y : Pieces). as_datagram (reading y)) (same_pieces x are.view.header (fti_contents (extensions_in are.view.area))
    (sym are.header) (ap fti_contents (extensions_in-area are.view.area are.extensions are.listed) ∙ sym are.ftis))

-- ---- a packet that is spelled is read

-- the values at the places of the pieces
values_again : (d : List ℕ) (p : SymbolPacket) → (is : Spells d p) → packet_in is.pieces ≡ p
values_again d p is =
    let fit = places_fit p is.packet in
    made p _ _ _ _ _ _ _
    is.tsi
    is.toi
    (ap (λ (ftis : List (List ℕ)). stated (content_of ftis)) is.information ∙ stated-fti_content p.oti [] is.packet.sound)
    (ap (big_number 3) is.payload ∙ big_number-reads_back 3 p.sbn (big_bytes 1 p.esi ++ p.symbol) fit.0)
    (ap (λ (xs : List ℕ). get_or xs 3 0) is.payload ∙ mod-eq_of_lt fit.1)
    (ap (drop 4) is.payload)
    is.close

-- no line holds
no_line : (d : List ℕ) (p : SymbolPacket) → (is : Spells d p) → first_fault (lines is.pieces) ≡ None
no_line d p is =
    let x = is.pieces in
    let values = packet_lines (packet_in x) in
    let one : length x.ftis ≡ 1 = ap length is.information in
    let sound : unsound x ≡ None = ap (λ (ftis : List (List ℕ)). option_map of_information (fti_fault (content_of ftis))) is.information
    ∙ ap (option_map of_information) (no_fti_fault p.oti is.packet.sound) in
    let long : 4 ≤ length x.payload = omega (arith, ap length is.payload) in
    past (other_scheme x) (no_toi x ∷ no_fti x ∷ fti_twice x ∷ unsound x ∷ no_payload_id x ∷ values) (fault_is_none _ _ (ap not (eq-eqb _ _ is.scheme)))
    ∙ past (no_toi x) (no_fti x ∷ fti_twice x ∷ unsound x ∷ no_payload_id x ∷ values)
    (fault_is_none _ _ (ne_eqb x.header.toi_bits 0 (λ e. omega (arith, e, is.some_toi))))
    ∙ past (no_fti x) (fti_twice x ∷ unsound x ∷ no_payload_id x ∷ values) (fault_is_none _ _ (ne_eqb (length x.ftis) 0 (λ e. omega (arith, e, one))))
    ∙ past (fti_twice x) (unsound x ∷ no_payload_id x ∷ values) (fault_is_none _ _ (le-ltb 1 (length x.ftis) (omega (arith, one))))
    ∙ past (unsound x) (no_payload_id x ∷ values) sound
    ∙ past (no_payload_id x) values (fault_is_none _ _ (le-ltb (length x.payload) 4 long))
    ∙ ap (λ (q : SymbolPacket). first_fault (packet_lines q)) (values_again d p is)
    ∙ lines_from_packet p is.packet

packet_again : (d : List ℕ) (p : SymbolPacket) → (is : Spells d p) → reading is.pieces ≡ Ok p
unfolding reading
packet_again d p is =
    ap (λ (fault : Option Refusal). unless_fault fault (packet_in is.pieces)) (no_line d p is) ∙ ap (λ (q : SymbolPacket). Ok q) (values_again d p is)

-- ---- the answer of the definitions

-- what is said is the computed answer
pub answered : (d : List ℕ) (a : Result Datagram Refusal) → Says d a → reply d ≡ a
unfolding reply
answered d (Ok (Symbol p)) is =
    past_pieces d is.pieces is.are (omega (arith, ap length is.payload)) ∙ ap as_datagram (packet_again d p is)
answered d (Ok (Control tsi close)) is =
    past_header d is.view [] is.begins ∙ rw (is.tsi_is, is.close_is) refl
answered d (Err r) (inl (fault, is, e)) = ap (view_answer d) (answer_fault d fault is) ∙ ap (λ (q : Refusal). Err q) (sym e)
answered d (Err r) (inr (x, are, more, e)) = past_pieces d x are more ∙ ap as_datagram (refused_by x r e)

-- so it is the only one
pub one_answer : (d : List ℕ) (a b : Result Datagram Refusal) → Says d a → Says d b → a ≡ b
one_answer d a b says also = sym (answered d a says) ∙ answered d b also

-- ---- and there is one

by_reading : (d : List ℕ) (x : Pieces) → AreBytes d → ArePieces d x → 0 < length x.payload
    → (r : Result SymbolPacket Refusal) → reading x ≡ r → (a : Result Datagram Refusal) × Says d a
by_reading d x bytes are more (Ok p) e = (Ok (Symbol p), read_spells d x p bytes are e)
by_reading d x bytes are more (Err r) e = (Err r, read_refuses d x r are more e)

behind_header : (d : List ℕ) (v : HeaderView) (rest : List ℕ) → AreBytes d → BeginsWithHeader d v rest → (a : Result Datagram Refusal) × Says d a
behind_header d v [] bytes begins = (Ok (Control v.header.tsi v.header.close_session), record { view = v; begins = begins; tsi_is = refl; close_is = refl })
behind_header d v (byte ∷ rest) bytes begins =
    let x : Pieces = record { header = v.header; ftis = fti_contents begins.extensions.0; payload = byte ∷ rest } in
    let are : ArePieces d x = record { view = v; extensions = begins.extensions.0; begins = begins; listed = begins.extensions.1; header = refl; ftis = refl } in
    by_reading d x bytes are (omega arith) (reading x) refl

pub some_answer : (d : List ℕ) → AreBytes d → (a : Result Datagram Refusal) × Says d a
some_answer d bytes = elim (header_or_fault d bytes) [
  | inl header ↦ behind_header d header.0 header.1.0 bytes header.1.1
  | inr fault ↦ (Err (of_header fault.0), inl (fault.0, fault.1, refl))
]
