-- The cause that is told is the first that is so.
use Rattle.std.proofs.Common.{◌≡◌, ◌↔◌, ℕ, ◌^◌, ◌≤◌, Bool, true, false, not, List, [], ◌∷◌, ◌⊎◌, inl, inr, Option, Some, None, Result, Ok, Err, refl, sym, ap, subst, ◌∙◌, arith, length}
use Rattle.std.specs.Prelude.{is_none}
use Rattle.std.proofs.lemmas.Bool.{cases_lt, false≢true}
use Rattle.wire_bytes.specs.Bytes.{AreBytes}
use Rattle.wire_bytes.specs.FirstFault.{fault_when, first_fault}
use Rattle.meta_text.specs.Text.{is_empty}
use Rattle.meta_text.specs.Fields.{Pair}
use Rattle.meta_text.specs.Lookup.{values_of}
use Rattle.compound_object.specs.declared.fault.CompoundFault.{CompoundFault}
use Rattle.compound_object.specs.declared.fault.CompoundFault.TheVariants as faults
use Rattle.compound_object.specs.Reading.{Parts, reading}
use Rattle.compound_object.specs.Causes as objects
use Rattle.compound_object.proofs.Public.{reading-spelled, spelled-reading, first_fault_of_object}
use Rattle.carousel_cid.specs.declared.kind.Kind.TheVariants.{Unusable}
use Rattle.carousel_cid.specs.declared.kind.Cause.{Cause}
use Rattle.carousel_cid.specs.declared.kind.Cause.TheVariants.{KnownTwice, LengthDiffers, NoLocation, NoNumber, BadNumber, BadList, ListTooLong, Compound}
use Rattle.carousel_cid.specs.Number.{IsNumber, writes_number, number_below}
use Rattle.carousel_cid.specs.KnownFields.{location_name, length_name, number_name, is_known_twice, value_of}
use Rattle.carousel_cid.specs.Listing.{texts_in, bad_place, count_in}
use Rattle.carousel_cid.specs.Causes.{differs_from, is_nothing, number_in, list_fault, descriptor_fault, file_fault, cause_of}
use Rattle.carousel_cid.specs.Kinds.{usable, kind_unless, kind_of_parts, kind_read, kind_of_object, code_of}
use Rattle.carousel_cid.specs.BadEntry.{StartsBad}
use Rattle.carousel_cid.specs.FirstCause.{IsSo, rank, NoneBelow, IsFirst, IsNoObject, IsObjectWith, IsFirstOf}
use Rattle.carousel_cid.proofs.Numbers.{number_from, number_to, writes_from, writes_to}
use Rattle.carousel_cid.proofs.Causes.{list_bad, list_long, list_sound, kind_caused, known_twice, length_differs, file_cause, descriptor_cause}
use Rattle.carousel_cid.proofs.ReadKinds.{known_from, known_to, value_is, value_to}
use Rattle.carousel_cid.proofs.BadLists.{starts_bad, told_bad, too_long, told_long}

-- a test that holds exactly where a fact does: it fails where the fact doesn't hold, and the other way round
fails_without : {P : Type 0} (t : Bool) → (t ≡ true → P) → ¬ P → t ≡ false
fails_without true then never = absurd (never (then refl))
fails_without false then never = refl

never_with : {P : Type 0} (t : Bool) → (P → t ≡ true) → t ≡ false → ¬ P
never_with t holds fails p = false≢true (sym fails ∙ holds p)

-- ---- each test, both ways

twice_so : (parts : Parts) → is_known_twice parts.fields ≡ true → IsSo parts KnownTwice
twice_so parts twice once = false≢true (sym (known_to parts.fields once) ∙ twice)

so_twice : (parts : Parts) → IsSo parts KnownTwice → is_known_twice parts.fields ≡ true
so_twice parts is = by (is_known_twice parts.fields) refl
  where
    by : (t : Bool) → is_known_twice parts.fields ≡ t → t ≡ true
    by true e = refl
    by false e = absurd (is (known_from parts.fields e))

differs : Parts → Bool
differs parts = differs_from (length parts.body) (value_of length_name parts.fields)

differs_so : (parts : Parts) → differs parts ≡ true → IsSo parts LengthDiffers
unfolding differs
differs_so parts differs = by (value_of length_name parts.fields) refl differs
  where
    by : (o : Option (List ℕ)) → value_of length_name parts.fields ≡ o → differs_from (length parts.body) o ≡ true → IsSo parts LengthDiffers
    by None e d = absurd (false≢true d)
    by (Some text) e d = (
      text,
      value_is length_name parts.fields text e,
      λ number. false≢true (ap not (sym (writes_to text (length parts.body) number)) ∙ d),
    )

so_differs : (parts : Parts) → IsSo parts LengthDiffers → differs parts ≡ true
unfolding differs
so_differs parts is =
    ap (differs_from (length parts.body)) (value_to length_name parts.fields is.0 is.1)
    ∙ ap not (fails_without (writes_number is.0 (length parts.body)) (writes_from is.0 (length parts.body)) is.2)

nowhere_so : (parts : Parts) → parts.descriptor ≡ false → is_nothing (value_of location_name parts.fields) ≡ true → IsSo parts NoLocation
nowhere_so parts file nothing =
    (file, λ location is. empty location (ap is_nothing (sym (value_to location_name parts.fields location is)) ∙ nothing))
  where
    empty : (text : List ℕ) → is_empty text ≡ true → text ≡ []
    empty [] e = refl
    empty (b ∷ bs) e = absurd (false≢true e)

so_nowhere : (parts : Parts) → IsSo parts NoLocation → is_nothing (value_of location_name parts.fields) ≡ true
so_nowhere parts is = by (value_of location_name parts.fields) refl
  where
    by : (o : Option (List ℕ)) → value_of location_name parts.fields ≡ o → is_nothing o ≡ true
    by None e = refl
    by (Some text) e = ap is_empty (is.1 text (value_is location_name parts.fields text e))

unnumbered_so : (parts : Parts) → parts.descriptor ≡ true → is_none (value_of number_name parts.fields) ≡ true → IsSo parts NoNumber
unnumbered_so parts sort none = (sort, λ text is. false≢true (ap is_none (sym (value_to number_name parts.fields text is)) ∙ none))

so_unnumbered : (parts : Parts) → IsSo parts NoNumber → is_none (value_of number_name parts.fields) ≡ true
so_unnumbered parts is = by (value_of number_name parts.fields) refl
  where
    by : (o : Option (List ℕ)) → value_of number_name parts.fields ≡ o → is_none o ≡ true
    by None e = refl
    by (Some text) e = absurd (is.1 text (value_is number_name parts.fields text e))

misnumbered_so : (parts : Parts) → parts.descriptor ≡ true → is_none (number_in (value_of number_name parts.fields)) ≡ true → IsSo parts BadNumber
misnumbered_so parts sort none = (sort, large)
  where
    large : (text : List ℕ) (number : ℕ) → values_of number_name parts.fields ≡ text ∷ [] → IsNumber text number → 2 ^ 32 ≤ number
    large text number is writes = elim (cases_lt number (2 ^ 32)) [
      | inl less ↦
          let read : number_in (value_of number_name parts.fields) ≡ Some number =
          ap number_in (value_to number_name parts.fields text is) ∙ number_to (2 ^ 32) text number writes less in
          absurd (false≢true (ap is_none (sym read) ∙ none))
      | inr least ↦ least
    ]

so_misnumbered : (parts : Parts) → IsSo parts BadNumber → is_none (number_in (value_of number_name parts.fields)) ≡ true
so_misnumbered parts is = by (value_of number_name parts.fields) refl
  where
    by_text : (text : List ℕ) (o : Option ℕ) → value_of number_name parts.fields ≡ Some text → number_below (2 ^ 32) text ≡ o → is_none o ≡ true
    by_text text None e read = refl
    by_text text (Some n) e read =
        let both = number_from (2 ^ 32) text n read in
        let least = is.1 text n (value_is number_name parts.fields text e) both.0 in
        absurd (omega (arith, both.1, least))

    by : (o : Option (List ℕ)) → value_of number_name parts.fields ≡ o → is_none (number_in o) ≡ true
    by None e = refl
    by (Some text) e = by_text text (number_below (2 ^ 32) text) e refl

-- ---- what is told where no cause is so up to a rank

once : (parts : Parts) (n : ℕ) → 2 ≤ n → NoneBelow parts n → is_known_twice parts.fields ≡ false
once parts n le none = fails_without (is_known_twice parts.fields) (twice_so parts) (none KnownTwice (omega arith))

same : (parts : Parts) (n : ℕ) → 3 ≤ n → NoneBelow parts n → differs parts ≡ false
same parts n le none = fails_without (differs parts) (differs_so parts) (none LengthDiffers (omega arith))

abbrev unnumbered : Parts → Bool
unnumbered parts = is_none (value_of number_name parts.fields)

abbrev misnumbered : Parts → Bool
misnumbered parts = is_none (number_in (value_of number_name parts.fields))

of_file : (parts : Parts) (n : ℕ) → 3 ≤ n → NoneBelow parts n → parts.descriptor ≡ false → cause_of parts ≡ file_fault parts.fields
unfolding differs
of_file parts n le none sort = file_cause parts (once parts n (omega arith) none) (same parts n le none) sort

of_descriptor : (parts : Parts) (n : ℕ) → 3 ≤ n → NoneBelow parts n → parts.descriptor ≡ true → cause_of parts ≡ descriptor_fault parts.fields parts.body
unfolding differs
of_descriptor parts n le none sort = descriptor_cause parts (once parts n (omega arith) none) (same parts n le none) sort

numbered : (parts : Parts) (n : ℕ) → 5 ≤ n → NoneBelow parts n → parts.descriptor ≡ true → unnumbered parts ≡ false
numbered parts n le none sort = fails_without (unnumbered parts) (unnumbered_so parts sort) (none NoNumber (omega arith))

well_numbered : (parts : Parts) (n : ℕ) → 6 ≤ n → NoneBelow parts n → parts.descriptor ≡ true → misnumbered parts ≡ false
well_numbered parts n le none sort = fails_without (misnumbered parts) (misnumbered_so parts sort) (none BadNumber (omega arith))

-- the fault of a descriptor is that of its list, where its number is sound
of_list : (parts : Parts) (n : ℕ) (fault : Option Cause) → 6 ≤ n → NoneBelow parts n → parts.descriptor ≡ true
    → list_fault parts.body ≡ fault → cause_of parts ≡ first_fault (fault ∷ [])
unfolding descriptor_fault
of_list parts n fault le none sort is =
    of_descriptor parts n (omega arith) none sort
    ∙ rw (numbered parts n (omega arith) none sort, well_numbered parts n le none sort, is) refl

-- ---- the first cause is told

caused : (parts : Parts) (cause : Cause) → IsSo parts cause → NoneBelow parts (rank cause) → cause_of parts ≡ Some cause
unfolding differs descriptor_fault file_fault
caused parts KnownTwice is first = known_twice parts (so_twice parts is)
caused parts LengthDiffers is first = length_differs parts (once parts 2 (omega arith) first) (so_differs parts is)
caused parts NoLocation is first =
    of_file parts 3 (omega arith) first is.0 ∙ ap (λ t. fault_when t NoLocation) (so_nowhere parts is)
caused parts NoNumber is first =
    of_descriptor parts 4 (omega arith) first is.0 ∙ rw (so_unnumbered parts is) refl
caused parts BadNumber is first =
    of_descriptor parts 5 (omega arith) first is.0
    ∙ rw (numbered parts 5 (omega arith) first is.0, so_misnumbered parts is) refl
caused parts (BadList at) is first = of_list parts 6 (Some (BadList at)) (omega arith) first is.0 (told_bad parts.body at is.1)
caused parts ListTooLong is first = of_list parts 7 (Some ListTooLong) (omega arith) first is.0 (told_long parts.body is.1 is.2 is.3)
caused parts (Compound code) is first = absurd is

-- ---- and there is one, or none is told

abbrev Judged : Parts → Type 0
Judged parts = ((cause : Cause) × IsFirst parts cause) ⊎ (cause_of parts ≡ None)

found : (parts : Parts) (cause : Cause) → IsSo parts cause → NoneBelow parts (rank cause) → Judged parts
found parts cause is first = inl (cause, record { is = is; first = first })

none_below_1 : (parts : Parts) → NoneBelow parts 1
none_below_1 parts KnownTwice less is = absurd (omega arith)
none_below_1 parts cause less is = absurd (omega arith)

past_twice : (parts : Parts) → ¬ IsSo parts KnownTwice → NoneBelow parts 2
past_twice parts never KnownTwice less is = never is
past_twice parts never cause less is = absurd (omega arith)

past_length : (parts : Parts) → NoneBelow parts 2 → ¬ IsSo parts LengthDiffers → NoneBelow parts 3
past_length parts none never LengthDiffers less is = never is
past_length parts none never cause less is = none cause (omega arith) is

past_location : (parts : Parts) → NoneBelow parts 3 → ¬ IsSo parts NoLocation → NoneBelow parts 4
past_location parts none never NoLocation less is = never is
past_location parts none never cause less is = none cause (omega arith) is

past_number : (parts : Parts) → NoneBelow parts 4 → ¬ IsSo parts NoNumber → NoneBelow parts 5
past_number parts none never NoNumber less is = never is
past_number parts none never cause less is = none cause (omega arith) is

past_bad_number : (parts : Parts) → NoneBelow parts 5 → ¬ IsSo parts BadNumber → NoneBelow parts 6
past_bad_number parts none never BadNumber less is = never is
past_bad_number parts none never cause less is = none cause (omega arith) is

past_bad_list : (parts : Parts) → NoneBelow parts 6 → ((at : ℕ) → ¬ StartsBad parts.body at) → NoneBelow parts 7
past_bad_list parts none never (BadList at) less is = never at is.1
past_bad_list parts none never cause less is = none cause (omega arith) is

judged_list : (parts : Parts) → parts.descriptor ≡ true → NoneBelow parts 6 → Judged parts
judged_list parts sort none = by (bad_place 0 (texts_in parts.body)) refl
  where
    never_bad : list_fault parts.body ≡ None → (at : ℕ) → ¬ StartsBad parts.body at
    never_bad sound at bad = let other : None ≡ Some (BadList at) = sym sound ∙ told_bad parts.body at bad in cc

    long_not_bad : list_fault parts.body ≡ Some ListTooLong → (at : ℕ) → ¬ StartsBad parts.body at
    long_not_bad long at bad = let other : Some ListTooLong ≡ Some (BadList at) = sym long ∙ told_bad parts.body at bad in cc

    by_count : bad_place 0 (texts_in parts.body) ≡ None → Judged parts
    by_count good = elim (cases_lt 4096 (count_in (texts_in parts.body))) [
      | inl long ↦
          let told = list_long parts.body good long in
          let list = too_long parts.body told in
          found parts ListTooLong (sort, list.0, list.1, list.2) (past_bad_list parts none (long_not_bad told))
      | inr few ↦ inr (of_list parts 6 None (omega arith) none sort (list_sound parts.body good few))
    ]

    by : (o : Option ℕ) → bad_place 0 (texts_in parts.body) ≡ o → Judged parts
    by None good = by_count good
    by (Some at) bad = found parts (BadList at) (sort, starts_bad parts.body at (list_bad parts.body at bad)) none

judged_number : (parts : Parts) → parts.descriptor ≡ true → NoneBelow parts 5 → Judged parts
judged_number parts sort none = by (misnumbered parts) refl
  where
    by : (t : Bool) → misnumbered parts ≡ t → Judged parts
    by true e = found parts BadNumber (misnumbered_so parts sort e) none
    by false e = judged_list parts sort (past_bad_number parts none (never_with (misnumbered parts) (so_misnumbered parts) e))

judged_descriptor : (parts : Parts) → parts.descriptor ≡ true → NoneBelow parts 3 → Judged parts
judged_descriptor parts sort none = by (unnumbered parts) refl
  where
    file_or_not : ¬ IsSo parts NoLocation
    file_or_not is = false≢true (sym is.0 ∙ sort)

    by : (t : Bool) → unnumbered parts ≡ t → Judged parts
    by true e = found parts NoNumber (unnumbered_so parts sort e) (past_location parts none file_or_not)
    by false e = judged_number parts sort
        (past_number parts (past_location parts none file_or_not) (never_with (unnumbered parts) (so_unnumbered parts) e))

judged_file : (parts : Parts) → parts.descriptor ≡ false → NoneBelow parts 3 → Judged parts
unfolding file_fault
judged_file parts sort none = by (is_nothing (value_of location_name parts.fields)) refl
  where
    by : (t : Bool) → is_nothing (value_of location_name parts.fields) ≡ t → Judged parts
    by true e = found parts NoLocation (nowhere_so parts sort e) none
    by false e = inr (of_file parts 3 (omega arith) none sort ∙ ap (λ t. fault_when t NoLocation) e)

judged_sort : (parts : Parts) → NoneBelow parts 3 → Judged parts
judged_sort parts none = by parts.descriptor refl
  where
    by : (d : Bool) → parts.descriptor ≡ d → Judged parts
    by true sort = judged_descriptor parts sort none
    by false sort = judged_file parts sort none

judged_length : (parts : Parts) → NoneBelow parts 2 → Judged parts
judged_length parts none = by (differs parts) refl
  where
    by : (t : Bool) → differs parts ≡ t → Judged parts
    by true e = found parts LengthDiffers (differs_so parts e) none
    by false e = judged_sort parts (past_length parts none (never_with (differs parts) (so_differs parts) e))

judged : (parts : Parts) → Judged parts
judged parts = by (is_known_twice parts.fields) refl
  where
    by : (t : Bool) → is_known_twice parts.fields ≡ t → Judged parts
    by true e = found parts KnownTwice (twice_so parts e) (none_below_1 parts)
    by false e = judged_length parts (past_twice parts (never_with (is_known_twice parts.fields) (so_twice parts) e))

first_of_parts : (parts : Parts) (cause : Cause) → cause_of parts ≡ Some cause → IsFirst parts cause
first_of_parts parts cause told = elim (judged parts) [
  | inl first ↦
      let other : Some first.0 ≡ Some cause = sym (caused parts first.0 first.1.is first.1.first) ∙ told in
      let same : first.0 ≡ cause = cc in
      subst (IsFirst parts) same first.1
  | inr none ↦ absurd (let other : None ≡ Some cause = sym none ∙ told in cc)
]

-- ---- an object

-- an object with a first cause is no file and no descriptor by that cause
with_first : (object : List ℕ) (cause : Cause) → IsObjectWith object cause → kind_of_object object ≡ Unusable cause
unfolding kind_of_object
with_first object cause is =
    ap kind_read (reading-spelled object is.0.descriptor is.0.fields is.0.body is.1) ∙ kind_caused is.0 cause (caused is.0 cause is.2.is is.2.first)

coded : (fault : CompoundFault) (object : List ℕ) → objects.IsSo object fault → code_of fault ≡ objects.rank fault
coded faults.Memory object so = absurd so
coded fault object so = refl

no_object : (object : List ℕ) (code : ℕ) → IsNoObject object code → kind_of_object object ≡ Unusable (Compound code)
unfolding kind_of_object
no_object object code is =
    ap kind_read ((first_fault_of_object object is.0).1 is.1) ∙ ap (λ n. Unusable (Compound n)) (coded is.0 object is.1.is ∙ sym is.2)

first_with : (object : List ℕ) (cause : Cause) → IsObjectWith object cause → IsFirstOf object cause
first_with object (Compound code) is = absurd is.2.is
first_with object cause is = is

-- what an object is called that is no file and no descriptor
cause_from : (descriptor : Bool) (fields : List Pair) (body : List ℕ) (o : Option Cause) (cause : Cause)
    → kind_unless o (usable descriptor fields body) ≡ Unusable cause → o ≡ Some cause
cause_from true fields body None cause is = absurd cc
cause_from false fields body None cause is = absurd cc
cause_from descriptor fields body (Some other) cause is = let same : other ≡ cause = cc in ap (λ c. Some c) same

first_told : (object : List ℕ) (cause : Cause) → AreBytes object → kind_of_object object ≡ Unusable cause → IsFirstOf object cause
unfolding kind_of_object kind_of_parts
first_told object cause bytes is = by (reading object) refl is
  where
    by : (r : Result Parts CompoundFault) → reading object ≡ r → kind_read r ≡ Unusable cause → IsFirstOf object cause
    by (Ok parts) read e =
        first_with object cause (
          parts,
          spelled-reading object parts bytes read,
          first_of_parts parts cause (cause_from parts.descriptor parts.fields parts.body (cause_of parts) cause e),
        )
    by (Err fault) read e =
        let first = (first_fault_of_object object fault).0 read in
        let same : Compound (code_of fault) ≡ cause = cc in
        subst (IsFirstOf object) same (fault, first, coded fault object first.is)

pub first_cause_told : (object : List ℕ) (cause : Cause) → AreBytes object → (kind_of_object object ≡ Unusable cause) ↔ IsFirstOf object cause
first_cause_told object cause bytes = (first_told object cause bytes, told cause)
  where
    told : (cause : Cause) → IsFirstOf object cause → kind_of_object object ≡ Unusable cause
    told (Compound code) is = no_object object code is
    told cause is = with_first object cause is
