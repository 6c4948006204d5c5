-- Which refusal it is, by the facts that tests of an object show.
use Rattle.std.proofs.Common.{◌≡◌, ◌≢◌, ℕ, ◌-◌, ◌<◌, ◌≤◌, Bool, true, false, not, ◌||◌, ◌==◌, eqb, ltb, List, [], ◌∷◌, length}
use Rattle.std.proofs.Common.{take, drop, Option, Some, None, ◌⊎◌, inl, inr, refl, ap, ◌∙◌, arith}
use Rattle.std.proofs.lemmas.Bool.{cases_lt, lt-ltb, le-ltb, ltb-false, eq-eqb, ne_eqb, eqb-true, eqb-false, or_parts, not-false}
use Rattle.wire_bytes.specs.Bytes.{are_zero}
use Rattle.wire_bytes.specs.FirstFault.{fault_when}
use Rattle.wire_bytes.proofs.Public.{none_hold, cause_fails}
use Rattle.compound_object.specs.declared.fault.CompoundFault.{CompoundFault}
use Rattle.compound_object.specs.declared.fault.CompoundFault.TheVariants.{Short, Version, HeaderLength, Format, Gzip, FillNotZero, Checksum}
use Rattle.compound_object.specs.Object.{rounded}
use Rattle.compound_object.specs.Reading.{version_in, format_in, encoding_in, header_length, body_start, filling_in, stated_sum, found_sum, refusal}

-- the facts that an object without a refusal meets, one test after another
pub record Passes (o : List ℕ) : Type 0 where
  pub long : 8 ≤ length o
  pub version : version_in o ≡ 0
  pub least : 8 ≤ header_length o
  pub within : body_start o ≤ length o
  pub format : format_in o ≡ 0
  pub plain : encoding_in o ≡ 0
  pub zeros : are_zero (filling_in o) ≡ true
  pub sum : stated_sum o ≡ found_sum o

-- ---- the tests that an object passes, up to the first that it doesn't

pub refused_short : (o : List ℕ) → length o < 8 → refusal o ≡ Some Short
unfolding refusal
refused_short o short = rw (lt-ltb (length o) 8 short) refl

pub refused_version : (o : List ℕ) → 8 ≤ length o → version_in o ≢ 0 → refusal o ≡ Some Version
unfolding refusal
refused_version o long other = rw (le-ltb (length o) 8 long, ne_eqb (version_in o) 0 other) refl

ends_past : (o : List ℕ) → (header_length o < 8) ⊎ (length o < body_start o) → 8 ≤ header_length o → length o < body_start o
ends_past o bad least = elim bad [ inl short ↦ absurd (omega arith) | inr long ↦ long ]

pub refused_length : (o : List ℕ) → 8 ≤ length o → version_in o ≡ 0 → (header_length o < 8) ⊎ (length o < body_start o) → refusal o ≡ Some HeaderLength
unfolding refusal
refused_length o long version bad = elim (cases_lt (header_length o) 8) [
  | inl short ↦ rw (le-ltb (length o) 8 long, eq-eqb (version_in o) 0 version, lt-ltb (header_length o) 8 short) refl
  | inr least ↦ rw (
    le-ltb (length o) 8 long,
    eq-eqb (version_in o) 0 version,
    le-ltb (header_length o) 8 least,
    lt-ltb (length o) (body_start o) (ends_past o bad least),
  ) refl
]

pub refused_format : (o : List ℕ) → 8 ≤ length o → version_in o ≡ 0 → 8 ≤ header_length o
    → body_start o ≤ length o → (format_in o ≢ 0) ⊎ (1 < encoding_in o) → refusal o ≡ Some Format
unfolding refusal
refused_format o long version least within bad = by (format_in o == 0) refl bad
  where
    by : (t : Bool) → (format_in o == 0) ≡ t → (format_in o ≢ 0) ⊎ (1 < encoding_in o) → refusal o ≡ Some Format
    by false other bad = rw (
      le-ltb (length o) 8 long,
      eq-eqb (version_in o) 0 version,
      le-ltb (header_length o) 8 least,
      le-ltb (length o) (body_start o) within,
      other,
    ) refl
    by true same (inl other) = absurd (other (eqb-true (format_in o) 0 same))
    by true same (inr above) =
        rw (
          le-ltb (length o) 8 long,
          eq-eqb (version_in o) 0 version,
          le-ltb (header_length o) 8 least,
          le-ltb (length o) (body_start o) within,
          same,
          lt-ltb 1 (encoding_in o) above,
        ) refl

pub refused_gzip : (o : List ℕ) → 8 ≤ length o → version_in o ≡ 0 → 8 ≤ header_length o
    → body_start o ≤ length o → format_in o ≡ 0 → encoding_in o ≡ 1 → refusal o ≡ Some Gzip
unfolding refusal
refused_gzip o long version least within format gzip =
    rw (
      le-ltb (length o) 8 long,
      eq-eqb (version_in o) 0 version,
      le-ltb (header_length o) 8 least,
      le-ltb (length o) (body_start o) within,
      eq-eqb (format_in o) 0 format,
      gzip,
    ) refl

pub refused_fill : (o : List ℕ) → 8 ≤ length o → version_in o ≡ 0 → 8 ≤ header_length o
    → body_start o ≤ length o → format_in o ≡ 0 → encoding_in o ≡ 0 → are_zero (filling_in o) ≡ false
    → refusal o ≡ Some FillNotZero
unfolding refusal
refused_fill o long version least within format plain other =
    rw (
      le-ltb (length o) 8 long,
      eq-eqb (version_in o) 0 version,
      le-ltb (header_length o) 8 least,
      le-ltb (length o) (body_start o) within,
      eq-eqb (format_in o) 0 format,
      plain,
      other,
    ) refl

pub refused_sum : (o : List ℕ) → 8 ≤ length o → version_in o ≡ 0 → 8 ≤ header_length o
    → body_start o ≤ length o → format_in o ≡ 0 → encoding_in o ≡ 0 → are_zero (filling_in o) ≡ true
    → stated_sum o ≢ found_sum o → refusal o ≡ Some (Checksum (stated_sum o) (found_sum o))
unfolding refusal
refused_sum o long version least within format plain zeros other =
    rw (
      le-ltb (length o) 8 long,
      eq-eqb (version_in o) 0 version,
      le-ltb (header_length o) 8 least,
      le-ltb (length o) (body_start o) within,
      eq-eqb (format_in o) 0 format,
      plain,
      zeros,
      ne_eqb (stated_sum o) (found_sum o) other,
    ) refl

pub not_refused : (o : List ℕ) → Passes o → refusal o ≡ None
unfolding refusal
not_refused o p =
    rw (
      le-ltb (length o) 8 p.long,
      eq-eqb (version_in o) 0 p.version,
      le-ltb (header_length o) 8 p.least,
      le-ltb (length o) (body_start o) p.within,
      eq-eqb (format_in o) 0 p.format,
      p.plain,
      p.zeros,
      eq-eqb (stated_sum o) (found_sum o) p.sum,
    ) refl

-- the filling, where its ends are known
pub filling_is : (o : List ℕ) (h p : ℕ) → h ≡ header_length o → p ≡ rounded h → take (p - h) (drop h o) ≡ filling_in o
filling_is o h p length start = ap (λ q. take (q - h) (drop h o)) start ∙ ap (λ k. take (rounded k - k) (drop k o)) length

-- ---- back from no refusal to the facts

abbrev length_test : List ℕ → Bool
length_test o = ltb (header_length o) 8 || ltb (length o) (body_start o)

abbrev format_test : List ℕ → Bool
format_test o = not (eqb (format_in o) 0) || ltb 1 (encoding_in o)

pub passes_from_none : (o : List ℕ) → refusal o ≡ None → Passes o
unfolding refusal
passes_from_none o none =
    let l7 : List (Option CompoundFault) = fault_when (not (eqb (stated_sum o) (found_sum o))) (Checksum (stated_sum o) (found_sum o)) ∷ [] in
    let l6 = fault_when (not (are_zero (filling_in o))) FillNotZero ∷ l7 in
    let l5 = fault_when (eqb (encoding_in o) 1) Gzip ∷ l6 in
    let l4 = fault_when (format_test o) Format ∷ l5 in
    let l3 = fault_when (length_test o) HeaderLength ∷ l4 in
    let l2 = fault_when (not (eqb (version_in o) 0)) Version ∷ l3 in
    let n1 = none_hold (fault_when (ltb (length o) 8) Short) l2 none in
    let n2 = none_hold (fault_when (not (eqb (version_in o) 0)) Version) l3 n1.1 in
    let n3 = none_hold (fault_when (length_test o) HeaderLength) l4 n2.1 in
    let n4 = none_hold (fault_when (format_test o) Format) l5 n3.1 in
    let n5 = none_hold (fault_when (eqb (encoding_in o) 1) Gzip) l6 n4.1 in
    let n6 = none_hold (fault_when (not (are_zero (filling_in o))) FillNotZero) l7 n5.1 in
    let n7 = none_hold (fault_when (not (eqb (stated_sum o) (found_sum o))) (Checksum (stated_sum o) (found_sum o))) [] n6.1 in
    let lengths = or_parts (ltb (header_length o) 8) (ltb (length o) (body_start o)) (cause_fails (length_test o) HeaderLength n3.0) in
    let formats = or_parts (not (eqb (format_in o) 0)) (ltb 1 (encoding_in o)) (cause_fails (format_test o) Format n4.0) in
    let few : encoding_in o ≤ 1 = ltb-false 1 (encoding_in o) formats.1 in
    let other : encoding_in o ≢ 1 = eqb-false (encoding_in o) 1 (cause_fails (eqb (encoding_in o) 1) Gzip n5.0) in
    record {
      long = ltb-false (length o) 8 (cause_fails (ltb (length o) 8) Short n1.0);
      version = eqb-true (version_in o) 0 (not-false (eqb (version_in o) 0) (cause_fails (not (eqb (version_in o) 0)) Version n2.0));
      least = ltb-false (header_length o) 8 lengths.0;
      within = ltb-false (length o) (body_start o) lengths.1;
      format = eqb-true (format_in o) 0 (not-false (eqb (format_in o) 0) formats.0);
      plain = omega (arith, few, other);
      zeros = not-false (are_zero (filling_in o)) (cause_fails (not (are_zero (filling_in o))) FillNotZero n6.0);
      sum = eqb-true (stated_sum o) (found_sum o) (not-false (eqb (stated_sum o) (found_sum o))
          (cause_fails (not (eqb (stated_sum o) (found_sum o))) (Checksum (stated_sum o) (found_sum o)) n7.0));
    }
