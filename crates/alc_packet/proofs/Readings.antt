-- A packet's pieces, read one after the other: where each step leaves the reading.
use Rattle.std.proofs.Common.{◌≡◌, ℕ, ◌<◌, ◌≤◌, true, List, [], ◌∷◌, ◌++◌, length, Option, Some, None, Ok, Err, refl, sym, ap, subst, ◌∙◌, arith, ltb, eqb}
use Rattle.std.specs.Prelude.{option_map}
use Rattle.std.proofs.lemmas.Bool.{lt-ltb, le-ltb, ne_eqb}
use Rattle.wire_bytes.specs.FirstFault.{fault_when, first_fault, unless_fault}
use Rattle.wire_bytes.proofs.Public.{past, past_cause, held_first}
use Rattle.lct_header.specs.Header.{IsHeader}
use Rattle.oti_blocks.specs.declared.fault.OtiFault.{OtiFault}
use Rattle.oti_blocks.specs.Partition.{ObjectInformation, IsSound}
use Rattle.oti_blocks.specs.Faults.{fti_fault}
use Rattle.oti_blocks.specs.Wire.{stated}
use Rattle.alc_packet.specs.declared.refusal.Refusal.{Refusal}
use Rattle.alc_packet.specs.declared.refusal.Refusal.TheVariants.{NoFti, FtiTwice, NoPayloadId}
use Rattle.alc_packet.specs.Packet.{SymbolPacket, IsPacket}
use Rattle.alc_packet.specs.Pieces.{Pieces}
use Rattle.alc_packet.specs.Refusal.{other_scheme, no_toi, no_fti, fti_twice, of_information, content_of, unsound, no_payload_id, packet_lines, packet_in, lines}
use Rattle.alc_packet.specs.Inner.Reading.{only_of, reading}
use Rattle.alc_packet.proofs.Packets.{numbers_fit}
use Rattle.alc_packet.proofs.Lines.{packet_from_lines}

-- ---- lists of lines

-- a line that holds in the front is the first of all
front_held : {F : Type 0} (front behind : List (Option F)) (fault : F) → first_fault front ≡ Some fault → first_fault (front ++ behind) ≡ Some fault
front_held [] behind fault e = absurd cc
front_held (None ∷ front) behind fault e = front_held front behind fault e
front_held (Some other ∷ front) behind fault e = e

-- where none holds in the front, those behind decide
front_passed : {F : Type 0} (front behind : List (Option F)) → first_fault front ≡ None → first_fault (front ++ behind) ≡ first_fault behind
front_passed [] behind e = refl
front_passed (None ∷ front) behind e = front_passed front behind e
front_passed (Some other ∷ front) behind e = absurd cc

-- a line that holds is the answer
pub refused_by : (x : Pieces) (r : Refusal) → first_fault (lines x) ≡ Some r → reading x ≡ Err r
unfolding reading
refused_by x r e = ap (λ (fault : Option Refusal). unless_fault fault (packet_in x)) e

-- and the answer is a line that holds, or none does
pub held_by : (x : Pieces) (r : Refusal) → reading x ≡ Err r → first_fault (lines x) ≡ Some r
unfolding reading
held_by x r e = held (first_fault (lines x)) e where
  held : (fault : Option Refusal) → unless_fault fault (packet_in x) ≡ Err r → fault ≡ Some r
  held None e = absurd cc
  held (Some other) e = cc

pub passed_by : (x : Pieces) (p : SymbolPacket) → reading x ≡ Ok p → (first_fault (lines x) ≡ None) × (packet_in x ≡ p)
unfolding reading
passed_by x p e = none (first_fault (lines x)) e where
  none : (fault : Option Refusal) → unless_fault fault (packet_in x) ≡ Ok p → (fault ≡ None) × (packet_in x ≡ p)
  none None e = (refl, cc)
  none (Some other) e = absurd cc

-- ---- the header

abbrev pub header_lines : Pieces → List (Option Refusal)
header_lines x = other_scheme x ∷ no_toi x ∷ []

pub refused_header : (x : Pieces) (r : Refusal) → Some r ≡ first_fault (header_lines x) → Err r ≡ reading x
refused_header x r e = sym (refused_by x r (front_held (header_lines x) (no_fti x ∷ fti_twice x ∷ unsound x ∷ no_payload_id x ∷ packet_lines (packet_in x)) r (sym e)))

-- the lines behind those of the header decide
past_header : (x : Pieces) → None ≡ first_fault (header_lines x) → first_fault (lines x)
    ≡ first_fault (no_fti x ∷ fti_twice x ∷ unsound x ∷ no_payload_id x ∷ packet_lines (packet_in x))
past_header x e = front_passed (header_lines x) (no_fti x ∷ fti_twice x ∷ unsound x ∷ no_payload_id x ∷ packet_lines (packet_in x)) (sym e)

-- ---- the EXT_FTI

-- the two lines on how many there are
abbrev count_lines : List (List ℕ) → List (Option Refusal) → List (Option Refusal)
count_lines ftis behind = fault_when (eqb (length ftis) 0) NoFti ∷ fault_when (ltb 1 (length ftis)) FtiTwice ∷ behind

count_held : (ftis : List (List ℕ)) (behind : List (Option Refusal)) (r : Refusal) → only_of ftis ≡ Err r → first_fault (count_lines ftis behind) ≡ Some r
count_held [] behind r e = cc
count_held (content ∷ []) behind r e = absurd cc
count_held (content ∷ other ∷ others) behind r e =
    let twice : ltb 1 (length (content ∷ other ∷ others)) ≡ true = lt-ltb 1 (length (content ∷ other ∷ others)) (omega arith) in
    past_cause (eqb (length (content ∷ other ∷ others)) 0) NoFti (fault_when (ltb 1 (length (content ∷ other ∷ others))) FtiTwice ∷ behind)
    (ne_eqb (length (content ∷ other ∷ others)) 0 (λ z. omega (arith, z)))
    ∙ held_first (ltb 1 (length (content ∷ other ∷ others))) FtiTwice behind twice
    ∙ cc

count_passed : (ftis : List (List ℕ)) (behind : List (Option Refusal)) (content : List ℕ) → only_of ftis ≡ Ok content
    → (first_fault (count_lines ftis behind) ≡ first_fault behind) × (content_of ftis ≡ content)
count_passed [] behind content e = absurd cc
count_passed (only ∷ []) behind content e = (refl, cc)
count_passed (only ∷ other ∷ others) behind content e = absurd cc

pub refused_fti : (x : Pieces) (r : Refusal) → None ≡ first_fault (header_lines x) → only_of x.ftis ≡ Err r → Err r ≡ reading x
refused_fti x r header only = sym (refused_by x r (past_header x header ∙ count_held x.ftis (unsound x ∷ no_payload_id x ∷ packet_lines (packet_in x)) r only))

-- ---- the transmission information

-- what is known of the pieces once the content of the only EXT_FTI is
pub record HasContent (x : Pieces) (content : List ℕ) : Type 0 where
  pub header : None ≡ first_fault (header_lines x)
  pub only : only_of x.ftis ≡ Ok content

past_content : (x : Pieces) (content : List ℕ) → HasContent x content
    → (first_fault (lines x) ≡ first_fault (unsound x ∷ no_payload_id x ∷ packet_lines (packet_in x))) × (content_of x.ftis ≡ content)
past_content x content has =
    let behind = unsound x ∷ no_payload_id x ∷ packet_lines (packet_in x) in
    let count = count_passed x.ftis behind content has.only in
    (past_header x has.header ∙ count.0, count.1)

-- what is read of a content, by its fault
fault_read : (fault : Option OtiFault) (o : ObjectInformation) (f : OtiFault) → Err f ≡ unless_fault fault o → fault ≡ Some f
fault_read None o f e = absurd cc
fault_read (Some other) o f e = cc

none_read : (fault : Option OtiFault) (o oti : ObjectInformation) → Ok oti ≡ unless_fault fault o → (fault ≡ None) × (o ≡ oti)
none_read None o oti e = (refl, cc)
none_read (Some other) o oti e = absurd cc

pub refused_information : (x : Pieces) (content : List ℕ) (fault : OtiFault) → HasContent x content
    → Err fault ≡ unless_fault (fti_fault content) (stated content) → Err (of_information fault) ≡ reading x
refused_information x content fault has e =
    let before = past_content x content has in
    let line : unsound x ≡ Some (of_information fault) = ap (λ (c : List ℕ). option_map of_information (fti_fault c)) before.1
    ∙ ap (option_map of_information) (fault_read (fti_fault content) (stated content) fault e) in
    sym (refused_by x (of_information fault) (before.0 ∙ ap (λ (o : Option Refusal). first_fault (o ∷ no_payload_id x ∷ packet_lines (packet_in x))) line))

-- ---- the payload

-- what is known of the pieces once the transmission information is read
pub record HasInformation (x : Pieces) (oti : ObjectInformation) : Type 0 where
  pub content : List ℕ
  pub has : HasContent x content
  pub read : Ok oti ≡ unless_fault (fti_fault content) (stated content)

past_information : (x : Pieces) (oti : ObjectInformation) → HasInformation x oti
    → (first_fault (lines x) ≡ first_fault (no_payload_id x ∷ packet_lines (packet_in x))) × ((packet_in x).oti ≡ oti)
past_information x oti is =
    let before = past_content x is.content is.has in
    let sound = none_read (fti_fault is.content) (stated is.content) oti is.read in
    let line : unsound x ≡ None = ap (λ (c : List ℕ). option_map of_information (fti_fault c)) before.1 ∙ ap (option_map of_information) sound.0 in
    (before.0 ∙ past (unsound x) (no_payload_id x ∷ packet_lines (packet_in x)) line, ap stated before.1 ∙ sound.1)

pub refused_payload : (x : Pieces) (oti : ObjectInformation) → HasInformation x oti → length x.payload < 4 → Err NoPayloadId ≡ reading x
refused_payload x oti is short =
    sym (refused_by x NoPayloadId ((past_information x oti is).0
    ∙ held_first (ltb (length x.payload) 4) NoPayloadId (packet_lines (packet_in x)) (lt-ltb (length x.payload) 4 short)))

-- ---- the values

-- only the lines of the values are left
pub past_payload : (x : Pieces) (oti : ObjectInformation) → HasInformation x oti → 4 ≤ length x.payload
    → (reading x ≡ unless_fault (first_fault (packet_lines (packet_in x))) (packet_in x)) × ((packet_in x).oti ≡ oti)
unfolding reading
past_payload x oti is long =
    let before = past_information x oti is in (
      ap (λ (fault : Option Refusal). unless_fault fault (packet_in x))
          (before.0 ∙ past_cause (ltb (length x.payload) 4) NoPayloadId (packet_lines (packet_in x)) (le-ltb (length x.payload) 4 long)),
      before.1,
    )

-- what is known of the pieces once no line of their values holds
pub record HasValues (x : Pieces) (oti : ObjectInformation) : Type 0 where
  pub information : HasInformation x oti
  pub long : 4 ≤ length x.payload
  pub none : None ≡ first_fault (packet_lines (packet_in x))

pub values_are_packet : (x : Pieces) (oti : ObjectInformation) → HasValues x oti → IsHeader x.header → IsSound oti → IsPacket (packet_in x)
values_are_packet x oti has header sound =
    let fit = numbers_fit x.header header in
    packet_from_lines (packet_in x) fit.0 fit.1 (subst IsSound (sym (past_payload x oti has.information has.long).1) sound) (sym has.none)

pub values_read : (x : Pieces) (oti : ObjectInformation) → HasValues x oti → Ok (packet_in x) ≡ reading x
values_read x oti has =
    sym ((past_payload x oti has.information has.long).0 ∙ ap (λ (fault : Option Refusal). unless_fault fault (packet_in x)) (sym has.none))
