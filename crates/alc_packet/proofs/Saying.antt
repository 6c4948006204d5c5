-- What is read of a datagram is what it says.
use Rattle.std.proofs.Common.{◌≡◌, ◌≢◌, ℕ, ◌-◌, ◌<◌, ◌≤◌, Bool, true, false, not, cond, List, [], ◌∷◌, ◌++◌, length, get_or, take}
use Rattle.std.proofs.Common.{drop, drop-cons, None, Ok, Err, refl, sym, ap, subst, ◌∙◌, arith, inr}
use Rattle.std.specs.Prelude.{◌==◌}
use Rattle.std.proofs.lemmas.Bool.{eqb-true, eqb-false, ltb-false}
use Rattle.std.proofs.lemmas.List.{take_all, length-drop}
use Rattle.byteorder.specs.Endian.{big_number, big_bytes}
use Rattle.wire_bytes.specs.Bytes.{AreBytes}
use Rattle.wire_bytes.specs.FirstFault.{fault_when, first_fault}
use Rattle.wire_bytes.proofs.Public.{none_hold, cause_fails, number_piece, one_byte, byte_at_place}
use Rattle.lct_header.specs.Extension.{Extension}
use Rattle.lct_header.specs.Extensions.{AreExtensions}
use Rattle.lct_header.specs.Header.{IsHeader}
use Rattle.lct_header.specs.HeaderView.{HeaderView, BeginsWithHeader, StartsWithHeader}
use Rattle.lct_header.proofs.Public.{rest_is, header_is, area_bytes, rest_bytes, first_and_others}
use Rattle.oti_blocks.specs.Partition.{IsSound}
use Rattle.oti_blocks.specs.Wire.{fti_type, stated}
use Rattle.oti_blocks.specs.Faults.{information_faults, fti_fault}
use Rattle.oti_blocks.specs.declared.fault.OtiFault.TheVariants.{FtiLength}
use Rattle.oti_blocks.proofs.Public.{sound_from_no_fault, stated-widths, fti_content-stated}
use Rattle.alc_packet.specs.declared.refusal.Refusal.{Refusal}
use Rattle.alc_packet.specs.Packet.{SymbolPacket}
use Rattle.alc_packet.specs.Pieces.{Pieces, ArePieces, fti_contents}
use Rattle.alc_packet.specs.Datagram.{codepoint, Spells}
use Rattle.alc_packet.specs.Refusal.{other_scheme, no_toi, no_fti, fti_twice, of_information, content_of, unsound, no_payload_id, packet_lines, packet_in, lines, Refuses}
use Rattle.alc_packet.specs.Inner.Reading.{reading}
use Rattle.alc_packet.proofs.Packets.{numbers_fit}
use Rattle.alc_packet.proofs.Lines.{mapped_none, packet_from_lines}
use Rattle.alc_packet.proofs.Readings.{held_by, passed_by}

-- ---- the pieces

-- a header at the start, its extensions and what follows it are the pieces
pub are_cut : (d : List ℕ) (w v : HeaderView) (es : List Extension) → w ≡ v → StartsWithHeader d v → AreExtensions v.area es
    → ArePieces d (record { header = w.header; ftis = fti_contents es; payload = take (length d - w.length) (drop w.length d) })
are_cut d w v es same (rest, begins) listed =
    let payload : rest ≡ take (length d - w.length) (drop w.length d) =
    rest_is d v rest begins ∙ ap (λ (u : HeaderView). drop u.length d) (sym same)
    ∙ sym (take_all (length d - w.length) (drop w.length d) (omega (arith, length-drop w.length d))) in
    record {
      view = v;
      extensions = es;
      begins = subst (λ (xs : List ℕ). BeginsWithHeader d v xs) payload begins;
      listed =
          listed;
      header = ap (λ (u : HeaderView). u.header) same;
      ftis = refl;
    }

-- they are of bytes
header_of_pieces : (d : List ℕ) (x : Pieces) → AreBytes d → ArePieces d x → IsHeader x.header
header_of_pieces d x bytes are = subst IsHeader (sym are.header) (header_is d are.view x.payload bytes are.begins)

content_on : (b : Bool) (e : Extension) (others : List (List ℕ)) → AreBytes e.content
    → AreBytes (content_of others) → AreBytes (content_of (cond b (e.content ∷ others) others))
content_on true e others here later = here
content_on false e others here later = later

contents_bytes : (area : List ℕ) (es : List Extension) → AreBytes area → AreExtensions area es → AreBytes (content_of (fti_contents es))
contents_bytes area [] bytes are = λ i d lt. absurd (omega arith)
contents_bytes area (e ∷ es) bytes are =
    let parts = first_and_others area e es bytes are in
    content_on (e.het == fti_type) e (fti_contents es) parts.0 (contents_bytes are.1 es parts.1 are.4)

content_bytes : (d : List ℕ) (x : Pieces) → AreBytes d → ArePieces d x → AreBytes (content_of x.ftis)
content_bytes d x bytes are = subst (λ (ftis : List (List ℕ)). AreBytes (content_of ftis)) (sym are.ftis)
    (contents_bytes are.view.area are.extensions (area_bytes d are.view x.payload bytes are.begins) are.listed)

-- ---- what the lines leave

holds : (b : Bool) → not b ≡ false → b ≡ true
holds true e = refl
holds false e = absurd cc

only_one : (ftis : List (List ℕ)) → length ftis ≢ 0 → length ftis ≤ 1 → ftis ≡ content_of ftis ∷ []
only_one [] some few = absurd (some refl)
only_one (content ∷ []) some few = refl
only_one (content ∷ other ∷ others) some few = absurd (omega (arith, few))

-- a content without a fault is of ten bytes, whose values are sound
ten_bytes : (content : List ℕ) → fti_fault content ≡ None → length content ≡ 10
ten_bytes content none =
    eqb-true _ _ (holds _ (cause_fails _ _ (none_hold (fault_when (not (length content == 10)) (FtiLength (length content))) (information_faults (stated content)) none).0))

sound_content : (content : List ℕ) → AreBytes content → fti_fault content ≡ None → IsSound (stated content)
sound_content content bytes none =
    sound_from_no_fault (stated content) (stated-widths content bytes)
    (none_hold (fault_when (not (length content == 10)) (FtiLength (length content))) (information_faults (stated content)) none).1

-- a payload of four bytes and more is that of the values in it
payload_again : (payload : List ℕ) → AreBytes payload → 4 ≤ length payload
    → payload ≡ big_bytes 3 (big_number 3 payload) ++ (big_bytes 1 (get_or payload 3 0) ++ drop 4 payload)
payload_again payload bytes long =
    number_piece 0 3 payload (omega (arith, long)) bytes
    ∙ ap (λ (xs : List ℕ). big_bytes 3 (big_number 3 payload) ++ xs)
    (drop-cons payload 3 0 (omega arith) ∙ sym (ap (λ (xs : List ℕ). xs ++ drop 4 payload) (one_byte (get_or payload 3 0) (byte_at_place payload bytes 3))))

-- where no line holds the datagram spells the packet in its pieces
spells_in : (d : List ℕ) (x : Pieces) → AreBytes d → ArePieces d x → first_fault (lines x) ≡ None → Spells d (packet_in x)
spells_in d x bytes are e =
    let values = packet_lines (packet_in x) in
    let t1 = none_hold (other_scheme x) (no_toi x ∷ no_fti x ∷ fti_twice x ∷ unsound x ∷ no_payload_id x ∷ values) e in
    let t2 = none_hold (no_toi x) (no_fti x ∷ fti_twice x ∷ unsound x ∷ no_payload_id x ∷ values) t1.1 in
    let t3 = none_hold (no_fti x) (fti_twice x ∷ unsound x ∷ no_payload_id x ∷ values) t2.1 in
    let t4 = none_hold (fti_twice x) (unsound x ∷ no_payload_id x ∷ values) t3.1 in
    let t5 = none_hold (unsound x) (no_payload_id x ∷ values) t4.1 in
    let t6 = none_hold (no_payload_id x) values t5.1 in
    let content = content_of x.ftis in
    let fault : fti_fault content ≡ None = mapped_none of_information (fti_fault content) t5.0 in
    let of_bytes = content_bytes d x bytes are in
    let some : x.header.toi_bits ≢ 0 = eqb-false x.header.toi_bits 0 (cause_fails _ _ t2.0) in
    let one = only_one x.ftis (eqb-false (length x.ftis) 0 (cause_fails _ _ t3.0)) (ltb-false 1 (length x.ftis) (cause_fails _ _ t4.0)) in
    let long : 4 ≤ length x.payload = ltb-false (length x.payload) 4 (cause_fails _ _ t6.0) in
    let header = header_of_pieces d x bytes are in
    let fit = numbers_fit x.header header in
    record {
      pieces = x;
      are = are;
      scheme = eqb-true x.header.codepoint codepoint (holds _ (cause_fails _ _ t1.0));
      some_toi = omega (arith, some, header.toi_halves);
      information = one ∙ ap (λ (c : List ℕ). c ∷ []) (sym (fti_content-stated content (ten_bytes content fault) of_bytes));
      payload = payload_again x.payload (rest_bytes d are.view x.payload bytes are.begins) long;
      tsi = refl;
      toi = refl;
      close = refl;
      packet = packet_from_lines (packet_in x) fit.0 fit.1 (sound_content content of_bytes fault) t6.1;
    }

-- ---- what is read

pub read_spells : (d : List ℕ) (x : Pieces) (p : SymbolPacket) → AreBytes d → ArePieces d x → reading x ≡ Ok p → Spells d p
read_spells d x p bytes are e =
    let passed = passed_by x p e in
    subst (λ (q : SymbolPacket). Spells d q) passed.1 (spells_in d x bytes are passed.0)

pub read_refuses : (d : List ℕ) (x : Pieces) (r : Refusal) → ArePieces d x → 0 < length x.payload → reading x ≡ Err r → Refuses d r
read_refuses d x r are more e = inr (x, are, more, held_by x r e)
