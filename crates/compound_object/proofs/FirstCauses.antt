-- The cause that is told is the first that is so.
use Rattle.std.proofs.Common.{◌≡◌, ◌↔◌, ℕ, ◌≤◌, Bool, true, false, List, ◌⊎◌, inl, inr, Result, Ok, Err, Some, refl, sym, ap, subst, ◌∙◌, length, arith}
use Rattle.std.proofs.lemmas.Bool.{cases_lt, cases_eq}
use Rattle.wire_bytes.specs.Bytes.{are_zero}
use Rattle.meta_text.specs.declared.fault.FieldFault.{FieldFault}
use Rattle.meta_text.specs.Fields.{Pair}
use Rattle.meta_text.specs.Reading as fields
use Rattle.meta_text.proofs.Public.{first_fault_told}
use Rattle.compound_object.specs.declared.fault.CompoundFault.{CompoundFault}
use Rattle.compound_object.specs.declared.fault.CompoundFault.TheVariants.{Short, Version, HeaderLength, Format, Gzip, FillNotZero, Checksum, Fields, Memory}
use Rattle.compound_object.specs.Reading.{version_in, format_in, encoding_in, header_length, body_start, metadata_in, filling_in, stated_sum, found_sum, Parts, with_fields, reading}
use Rattle.compound_object.specs.Causes.{IsSo, rank, NoneBelow, IsFirst}
use Rattle.compound_object.proofs.Refusals.{Passes, refused_short, refused_version, refused_length, refused_format, refused_gzip, refused_fill, refused_sum, not_refused}
use Rattle.compound_object.proofs.Sayings.{reading_refused, reading_sound}

-- ---- the facts where no cause is so up to a rank

is_long : (o : List ℕ) (n : ℕ) → 2 ≤ n → NoneBelow o n → 8 ≤ length o
is_long o n le none = elim (cases_lt (length o) 8) [ inl short ↦ absurd (none Short (omega arith) short) | inr long ↦ long ]

has_version : (o : List ℕ) (n : ℕ) → 3 ≤ n → NoneBelow o n → version_in o ≡ 0
has_version o n le none = elim (cases_eq (version_in o) 0) [ inl same ↦ same | inr other ↦ absurd (none Version (omega arith) other) ]

has_header : (o : List ℕ) (n : ℕ) → 4 ≤ n → NoneBelow o n → 8 ≤ header_length o
has_header o n le none = elim (cases_lt (header_length o) 8) [ inl short ↦ absurd (none HeaderLength (omega arith) (inl short)) | inr least ↦ least ]

has_body : (o : List ℕ) (n : ℕ) → 4 ≤ n → NoneBelow o n → body_start o ≤ length o
has_body o n le none = elim (cases_lt (length o) (body_start o)) [ inl past ↦ absurd (none HeaderLength (omega arith) (inr past)) | inr within ↦ within ]

has_format : (o : List ℕ) (n : ℕ) → 5 ≤ n → NoneBelow o n → format_in o ≡ 0
has_format o n le none = elim (cases_eq (format_in o) 0) [ inl same ↦ same | inr other ↦ absurd (none Format (omega arith) (inl other)) ]

is_plain : (o : List ℕ) (n : ℕ) → 6 ≤ n → NoneBelow o n → encoding_in o ≡ 0
is_plain o n le none = elim (cases_lt 1 (encoding_in o)) [
  | inl above ↦ absurd (none Format (omega arith) (inr above))
  | inr few ↦ elim (cases_eq (encoding_in o) 1) [ inl gzip ↦ absurd (none Gzip (omega arith) gzip) | inr other ↦ omega arith ]
]

is_filled : (o : List ℕ) (n : ℕ) → 7 ≤ n → NoneBelow o n → are_zero (filling_in o) ≡ true
is_filled o n le none = by (are_zero (filling_in o)) refl
  where
    by : (t : Bool) → are_zero (filling_in o) ≡ t → t ≡ true
    by true e = refl
    by false e = absurd (none FillNotZero (omega arith) e)

has_sum : (o : List ℕ) (n : ℕ) → 8 ≤ n → NoneBelow o n → stated_sum o ≡ found_sum o
has_sum o n le none = elim (cases_eq (stated_sum o) (found_sum o)) [
  | inl same ↦ same
  | inr other ↦ absurd (none (Checksum (stated_sum o) (found_sum o)) (omega arith) (refl, refl, other))
]

passes : (o : List ℕ) → NoneBelow o 8 → Passes o
passes o none = record {
  long = is_long o 8 (omega arith) none;
  version = has_version o 8 (omega arith) none;
  least = has_header o 8 (omega arith) none;
  within = has_body o 8 (omega arith) none;
  format = has_format o 8 (omega arith) none;
  plain = is_plain o 8 (omega arith) none;
  zeros = is_filled o 8 (omega arith) none;
  sum = has_sum o 8 (omega arith) none;
}

-- ---- the first cause is told

refused_first : (o : List ℕ) (cause : CompoundFault) → IsSo o cause → NoneBelow o (rank cause) → reading o ≡ Err cause
refused_first o Short is first = reading_refused o Short (refused_short o is)
refused_first o Version is first = reading_refused o Version (refused_version o (is_long o 2 (omega arith) first) is)
refused_first o HeaderLength is first =
    reading_refused o HeaderLength (refused_length o (is_long o 3 (omega arith) first) (has_version o 3 (omega arith) first) is)
refused_first o Format is first =
    reading_refused o Format (refused_format o (is_long o 4 (omega arith) first) (has_version o 4 (omega arith) first)
    (has_header o 4 (omega arith) first) (has_body o 4 (omega arith) first) is)
refused_first o Gzip is first =
    reading_refused o Gzip (refused_gzip o (is_long o 5 (omega arith) first) (has_version o 5 (omega arith) first)
    (has_header o 5 (omega arith) first) (has_body o 5 (omega arith) first) (has_format o 5 (omega arith) first) is)
refused_first o FillNotZero is first =
    reading_refused o FillNotZero (refused_fill o (is_long o 6 (omega arith) first) (has_version o 6 (omega arith) first)
    (has_header o 6 (omega arith) first) (has_body o 6 (omega arith) first) (has_format o 6 (omega arith) first) (is_plain o 6 (omega arith) first) is)
refused_first o (Checksum stated found) is first =
    let sums : Checksum (stated_sum o) (found_sum o) ≡ Checksum stated found = cc (is.0, is.1) in
    reading_refused o (Checksum stated found) (refused_sum o (is_long o 7 (omega arith) first) (has_version o 7 (omega arith) first)
    (has_header o 7 (omega arith) first) (has_body o 7 (omega arith) first) (has_format o 7 (omega arith) first)
    (is_plain o 7 (omega arith) first) (is_filled o 7 (omega arith) first) (λ same. is.2 (is.0 ∙ same ∙ sym is.1)) ∙ ap (λ f. Some f) sums)
refused_first o (Fields fault) is first =
    reading_sound o (not_refused o (passes o first)) ∙ ap (with_fields o) ((first_fault_told (metadata_in o) fault).1 is)
refused_first o Memory is first = absurd is

-- ---- and there is one, or an object

abbrev Judged : List ℕ → Type 0
Judged o = ((cause : CompoundFault) × IsFirst o cause) ⊎ ((parts : Parts) × (reading o ≡ Ok parts))

caused : (o : List ℕ) (cause : CompoundFault) → IsSo o cause → NoneBelow o (rank cause) → Judged o
caused o cause is first = inl (cause, record { is = is; first = first })

none_below_1 : (o : List ℕ) → NoneBelow o 1
none_below_1 o Short less is = absurd (omega arith)
none_below_1 o cause less is = absurd (omega arith)

past_short : (o : List ℕ) → ¬ IsSo o Short → NoneBelow o 2
past_short o never Short less is = never is
past_short o never cause less is = absurd (omega arith)

past_version : (o : List ℕ) → NoneBelow o 2 → ¬ IsSo o Version → NoneBelow o 3
past_version o none never Version less is = never is
past_version o none never cause less is = none cause (omega arith) is

past_length : (o : List ℕ) → NoneBelow o 3 → ¬ IsSo o HeaderLength → NoneBelow o 4
past_length o none never HeaderLength less is = never is
past_length o none never cause less is = none cause (omega arith) is

past_format : (o : List ℕ) → NoneBelow o 4 → ¬ IsSo o Format → NoneBelow o 5
past_format o none never Format less is = never is
past_format o none never cause less is = none cause (omega arith) is

past_gzip : (o : List ℕ) → NoneBelow o 5 → ¬ IsSo o Gzip → NoneBelow o 6
past_gzip o none never Gzip less is = never is
past_gzip o none never cause less is = none cause (omega arith) is

past_fill : (o : List ℕ) → NoneBelow o 6 → ¬ IsSo o FillNotZero → NoneBelow o 7
past_fill o none never FillNotZero less is = never is
past_fill o none never cause less is = none cause (omega arith) is

past_sum : (o : List ℕ) → NoneBelow o 7 → stated_sum o ≡ found_sum o → NoneBelow o 8
past_sum o none same (Checksum stated found) less is = is.2 (is.0 ∙ same ∙ sym is.1)
past_sum o none same cause less is = none cause (omega arith) is

judged_fields : (o : List ℕ) → NoneBelow o 8 → Judged o
judged_fields o none = by (fields.reading (metadata_in o)) refl
  where
    by : (r : Result (List Pair) FieldFault) → fields.reading (metadata_in o) ≡ r → Judged o
    by (Ok pairs) e = inr (_, reading_sound o (not_refused o (passes o none)) ∙ ap (with_fields o) e)
    by (Err fault) e = caused o (Fields fault) ((first_fault_told (metadata_in o) fault).0 e) none

judged_sum : (o : List ℕ) → NoneBelow o 7 → Judged o
judged_sum o none = elim (cases_eq (stated_sum o) (found_sum o)) [
  | inl same ↦ judged_fields o (past_sum o none same)
  | inr other ↦ caused o (Checksum (stated_sum o) (found_sum o)) (refl, refl, other) none
]

judged_fill : (o : List ℕ) → NoneBelow o 6 → Judged o
judged_fill o none = by (are_zero (filling_in o)) refl
  where
    by : (t : Bool) → are_zero (filling_in o) ≡ t → Judged o
    by true e = judged_sum o (past_fill o none (λ is. let other : true ≡ false = sym e ∙ is in cc))
    by false e = caused o FillNotZero e none

judged_gzip : (o : List ℕ) → NoneBelow o 5 → Judged o
judged_gzip o none = elim (cases_eq (encoding_in o) 1) [ inl gzip ↦ caused o Gzip gzip none | inr other ↦ judged_fill o (past_gzip o none other) ]

judged_format : (o : List ℕ) → NoneBelow o 4 → Judged o
judged_format o none = elim (cases_eq (format_in o) 0) [
  | inr other ↦ caused o Format (inl other) none
  | inl same ↦ elim (cases_lt 1 (encoding_in o)) [
    | inl above ↦ caused o Format (inr above) none
    | inr few ↦ judged_gzip o (past_format o none (λ is. elim is [ inl other ↦ other same | inr above ↦ absurd (omega arith) ]))
  ]
]

judged_length : (o : List ℕ) → NoneBelow o 3 → Judged o
judged_length o none = elim (cases_lt (header_length o) 8) [
  | inl short ↦ caused o HeaderLength (inl short) none
  | inr least ↦ elim (cases_lt (length o) (body_start o)) [
    | inl past ↦ caused o HeaderLength (inr past) none
    | inr within ↦ judged_format o (past_length o none (λ is. elim is [ inl short ↦ absurd (omega arith) | inr past ↦ absurd (omega arith) ]))
  ]
]

judged_version : (o : List ℕ) → NoneBelow o 2 → Judged o
judged_version o none = elim (cases_eq (version_in o) 0) [
  | inl same ↦ judged_length o (past_version o none (λ other. other same))
  | inr other ↦ caused o Version other none
]

judged : (o : List ℕ) → Judged o
judged o = elim (cases_lt (length o) 8) [
  | inl short ↦ caused o Short short (none_below_1 o)
  | inr long ↦ judged_version o (past_short o (λ short. absurd (omega arith)))
]

-- ---- both ways

pub first_fault_of_object : (o : List ℕ) (cause : CompoundFault) → (reading o ≡ Err cause) ↔ IsFirst o cause
first_fault_of_object o cause = (
  λ told. elim (judged o) [
    | inl found ↦
        let other : reading o ≡ Err found.0 = refused_first o found.0 found.1.is found.1.first in
        let same : found.0 ≡ cause = cc in
        subst (IsFirst o) same found.1
    | inr read ↦ absurd (let e : Ok read.0 ≡ Err cause = sym read.1 ∙ told in cc)
  ],
  λ first. refused_first o cause first.is first.first,
)
