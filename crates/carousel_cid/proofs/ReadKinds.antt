-- Files and descriptors are read exactly where the definitions say so.
use Rattle.std.proofs.Common.{◌≡◌, ◌≢◌, ℕ, ◌≤◌, ◌<◌, ◌^◌, Bool, true, false, not, List, [], ◌∷◌, Option, Some, None, Ok, Err}
use Rattle.std.proofs.Common.{Result, refl, sym, ap, subst, ◌∙◌, arith, length}
use Rattle.std.specs.declared.alloc.AllocError.{AllocError}
use Rattle.std.specs.Prelude.{IfOk, ◌↔◌, unwrap_or, is_none, option_to_list, option_map}
use Rattle.std.proofs.lemmas.Bool.{le-ltb, ltb-false, or_parts, not-false}
use Rattle.meta_text.specs.Text.{is_empty}
use Rattle.meta_text.specs.Fields.{Pair}
use Rattle.meta_text.specs.Lookup.{values_of}
use Rattle.wire_bytes.specs.Bytes.{AreBytes}
use Rattle.wire_bytes.specs.FirstFault.{fault_when}
use Rattle.wire_bytes.proofs.Public.{none_hold, cause_fails}
use Rattle.compound_object.specs.declared.fault.CompoundFault.{CompoundFault}
use Rattle.compound_object.specs.Object.{SpellsObject}
use Rattle.compound_object.specs.Reading.{Parts, reading}
use Rattle.compound_object.proofs.Public.{reading-spelled, spelled-reading}
use Rattle.carousel_cid.specs.declared.kind.Kind.{Kind}
use Rattle.carousel_cid.specs.declared.kind.Kind.TheVariants.{File, Descriptor, Unusable}
use Rattle.carousel_cid.specs.declared.kind.Cause.{Cause}
use Rattle.carousel_cid.specs.declared.kind.Cause.TheVariants.{NoNumber, BadNumber}
use Rattle.carousel_cid.specs.Number.{IsNumber, writes_number, number_below}
use Rattle.carousel_cid.specs.KnownFields.{location_name, type_name, length_name, number_name, complete_name, AreKnownOnce, is_twice, is_known_twice, only_one, value_of}
use Rattle.carousel_cid.specs.IdentifierList.{count_of, identifiers_of}
use Rattle.carousel_cid.specs.Repeats.{first_places, are_different}
use Rattle.carousel_cid.specs.File.{ReadsFile}
use Rattle.carousel_cid.specs.Descriptor.{ReadsDescriptor}
use Rattle.carousel_cid.specs.Listing.{texts_in, bad_place, count_in, identifiers_in}
use Rattle.carousel_cid.specs.Causes.{differs_from, is_nothing, number_in, list_fault, descriptor_fault, file_fault, cause_of}
use Rattle.carousel_cid.specs.Kinds.{usable, kind_unless, kind_of_parts, kind_read, kind_of_object, file_in, descriptor_in}
use Rattle.carousel_cid.proofs.Numbers.{number_from, number_to, writes_from, writes_to}
use Rattle.carousel_cid.proofs.Spellings.{entries_good, entries_count, entries_identifiers}
use Rattle.carousel_cid.proofs.Lists.{spells_list, texts_spelled}
use Rattle.carousel_cid.proofs.Kept.{first_places_differ}
use Rattle.carousel_cid.proofs.Causes.{file_cause, descriptor_cause, file_kind, descriptor_kind, list_sound}

-- ---- known fields

at_most_one : (fields : List Pair) (name : List ℕ) → is_twice fields name ≡ false → length (values_of name fields) ≤ 1
unfolding is_twice
at_most_one fields name once = ltb-false 1 (length (values_of name fields)) once

not_twice : (fields : List Pair) (name : List ℕ) → length (values_of name fields) ≤ 1 → is_twice fields name ≡ false
unfolding is_twice
not_twice fields name few = le-ltb 1 (length (values_of name fields)) few

pub known_from : (fields : List Pair) → is_known_twice fields ≡ false → AreKnownOnce fields
unfolding is_known_twice
known_from fields once =
    let twice = is_twice fields in
    let a = or_parts (twice location_name) _ once in
    let b = or_parts (twice type_name) _ a.1 in
    let c = or_parts (twice length_name) _ b.1 in
    let d = or_parts (twice number_name) _ c.1 in
    let e = or_parts (twice complete_name) false d.1 in (
      at_most_one fields location_name a.0,
      (
        at_most_one fields type_name
            b.0,
        (at_most_one fields length_name c.0, (at_most_one fields number_name d.0, (at_most_one fields complete_name e.0, tt))),
      ),
    )

pub known_to : (fields : List Pair) → AreKnownOnce fields → is_known_twice fields ≡ false
unfolding is_known_twice
known_to fields once =
    rw (
      not_twice fields location_name once.0,
      not_twice fields type_name once.1.0,
      not_twice fields length_name once.1.1.0,
      not_twice fields number_name once.1.1.1.0,
      not_twice fields complete_name once.1.1.1.1.0,
    ) refl

-- ---- one value

one_of : (values : List (List ℕ)) (v : List ℕ) → only_one values ≡ Some v → values ≡ v ∷ []
one_of [] v is = absurd (let other : None ≡ Some v = is in cc)
one_of (u ∷ []) v is = ap (λ x. x ∷ []) (let same : u ≡ v = cc in same)
one_of (u ∷ w ∷ us) v is = absurd (let other : None ≡ Some v = is in cc)

pub value_is : (name : List ℕ) (fields : List Pair) (v : List ℕ) → value_of name fields ≡ Some v → values_of name fields ≡ v ∷ []
unfolding value_of
value_is name fields v is = one_of (values_of name fields) v is

pub value_to : (name : List ℕ) (fields : List Pair) (v : List ℕ) → values_of name fields ≡ v ∷ [] → value_of name fields ≡ Some v
unfolding value_of
value_to name fields v is = ap only_one is

-- the values under a name that comes once at most, as an option
values_from : (name : List ℕ) (fields : List Pair) → length (values_of name fields) ≤ 1 → values_of name fields ≡ option_to_list (value_of name fields)
unfolding value_of
values_from name fields few = by (values_of name fields) few
  where
    by : (values : List (List ℕ)) → length values ≤ 1 → values ≡ option_to_list (only_one values)
    by [] few = refl
    by (v ∷ []) few = refl
    by (v ∷ w ∷ vs) few = absurd (omega arith)

value_option : (name : List ℕ) (fields : List Pair) (o : Option (List ℕ)) → values_of name fields ≡ option_to_list o → value_of name fields ≡ o
unfolding value_of
value_option name fields None is = ap only_one is
value_option name fields (Some v) is = ap only_one is

-- ---- the stated length

stated_from : (fields : List Pair) (size : ℕ) → differs_from size (value_of length_name fields) ≡ false
    → (text : List ℕ) → values_of length_name fields ≡ text ∷ [] → IsNumber text size
stated_from fields size same text is =
    writes_from text size (not-false (writes_number text size) (ap (differs_from size) (sym (value_to length_name fields text is)) ∙ same))

stated_to : (fields : List Pair) (size : ℕ) → ((text : List ℕ) → values_of length_name fields ≡ text ∷ [] → IsNumber text size)
    → differs_from size (value_of length_name fields) ≡ false
stated_to fields size stated = by (value_of length_name fields) refl
  where
    by : (o : Option (List ℕ)) → value_of length_name fields ≡ o → differs_from size o ≡ false
    by None is = refl
    by (Some text) is = ap not (writes_to text size (stated text (value_is length_name fields text is)))

-- ---- no cause

-- what a pair of an option and a kind is, where it isn't Unusable
usable_from : (o : Option Cause) (kind other : Kind) → kind_unless o kind ≡ other → ((cause : Cause) → other ≢ Unusable cause) → (o ≡ None) × (kind ≡ other)
usable_from None kind other is usable = (refl, is)
usable_from (Some cause) kind other is usable = absurd (usable cause (sym is))

-- the facts where nothing is wrong with an object
pub record Sound (parts : Parts) : Type 0 where
  pub once : is_known_twice parts.fields ≡ false
  pub same : differs_from (length parts.body) (value_of length_name parts.fields) ≡ false

sound_from : (parts : Parts) → cause_of parts ≡ None → Sound parts
unfolding cause_of
sound_from parts none =
    let first = none_hold _ _ none in
    let second = none_hold _ _ first.1 in
    record { once = cause_fails _ _ first.0; same = cause_fails _ _ second.0 }

empty_not : (text : List ℕ) → text ≢ [] → is_empty text ≡ false
empty_not [] some = absurd (some refl)
empty_not (b ∷ bs) some = refl

-- ---- a file

located : (fields : List Pair) (location : List ℕ) → file_fault fields ≡ None
    → unwrap_or (value_of location_name fields) [] ≡ location → (values_of location_name fields ≡ location ∷ []) × (location ≢ [])
unfolding file_fault
located fields location none is = by (value_of location_name fields) refl (cause_fails _ _ none) is
  where
    by : (o : Option (List ℕ)) → value_of location_name fields ≡ o → is_nothing o ≡ false
        → unwrap_or o [] ≡ location → (values_of location_name fields ≡ location ∷ []) × (location ≢ [])
    by None e some is = absurd (let other : true ≡ false = some in cc)
    by (Some text) e some is = (
      value_is location_name fields location (e ∙ ap (λ t. Some t) is),
      λ nothing. let empty : is_empty text ≡ true = ap is_empty (is ∙ nothing) in cc,
    )

file_from : (object : List ℕ) (parts : Parts) (location : List ℕ) (kind : Option (List ℕ)) (body : List ℕ) → SpellsObject object parts.descriptor parts.fields parts.body
    → kind_of_parts parts ≡ File location kind body → ReadsFile object location kind body
unfolding kind_of_parts
file_from object parts location kind body spells is =
    let read = usable_from (cause_of parts) (usable parts.descriptor parts.fields parts.body) (File location kind body) is (λ cause same. cc) in
    by parts.descriptor refl (sound_from parts read.0) read.0 read.1
  where
    by : (d : Bool) → parts.descriptor ≡ d → Sound parts → cause_of parts ≡ None
        → usable d parts.fields parts.body ≡ File location kind body → ReadsFile object location kind body
    by true sort sound none made = absurd cc
    by false sort sound none made =
        let body_is : parts.body ≡ body = cc in
        let kind_is : value_of type_name parts.fields ≡ kind = cc in
        let location_is : unwrap_or (value_of location_name parts.fields) [] ≡ location = cc in
        let fault : file_fault parts.fields ≡ None = sym (file_cause parts sound.once sound.same sort) ∙ none in
        let once = known_from parts.fields sound.once in
        let place = located parts.fields location fault location_is in
        record {
          fields = parts.fields;
          spells = subst (λ b. SpellsObject object false parts.fields b) body_is (subst (λ d. SpellsObject object d parts.fields parts.body) sort spells);
          once = once;
          stated = λ text there. subst (λ (b : List ℕ). IsNumber text (length b)) body_is (stated_from parts.fields (length parts.body) sound.same text there);
          located = place.0;
          somewhere = place.1;
          typed = values_from type_name parts.fields once.1.0 ∙ ap option_to_list kind_is;
        }

pub reads_file : (object location : List ℕ) (kind : Option (List ℕ)) (body : List ℕ) → AreBytes object
    → kind_of_object object ≡ File location kind body → ReadsFile object location kind body
unfolding kind_of_object
reads_file object location kind body bytes is = by (reading object) refl is
  where
    by : (r : Result Parts CompoundFault) → reading object ≡ r → kind_read r ≡ File location kind body → ReadsFile object location kind body
    by (Ok parts) read e = file_from object parts location kind body (spelled-reading object parts bytes read) e
    by (Err fault) read e = absurd cc

pub file_read : (object location : List ℕ) (kind : Option (List ℕ)) (body : List ℕ)
    → ReadsFile object location kind body → kind_of_object object ≡ File location kind body
unfolding kind_of_object file_fault
file_read object location kind body f =
    let parts : Parts = record { descriptor = false; fields = f.fields; body = body } in
    let once = known_to f.fields f.once in
    let same = stated_to f.fields (length body) f.stated in
    let place = value_to location_name f.fields location f.located in
    let fault : file_fault f.fields ≡ None = rw (place, empty_not location f.somewhere) refl in
    ap kind_read (reading-spelled object false f.fields body f.spells)
    ∙ file_kind parts refl (file_cause parts once same refl)
    ∙ ap (λ o. kind_unless o (file_in f.fields body)) fault
    ∙ (λ i. File (unwrap_or (place i) []) (value_option type_name f.fields kind f.typed i) body)

-- ---- a descriptor

number_facts : (fields : List Pair) (number : ℕ) → is_none (number_in (value_of number_name fields)) ≡ false
    → unwrap_or (number_in (value_of number_name fields)) 0 ≡ number
    → (text : List ℕ) × (values_of number_name fields ≡ text ∷ []) × IsNumber text number × (number < 2 ^ 32)
number_facts fields number some is = by (value_of number_name fields) refl some is
  where
    by_text : (text : List ℕ) (o : Option ℕ) → number_below (2 ^ 32) text ≡ o → is_none o ≡ false → unwrap_or o 0 ≡ number → IsNumber text number × (number < 2 ^ 32)
    by_text text None e some is = absurd cc
    by_text text (Some n) e some is = number_from (2 ^ 32) text number (e ∙ ap (λ k. Some k) is)

    by : (o : Option (List ℕ)) → value_of number_name fields ≡ o → is_none (number_in o) ≡ false → unwrap_or (number_in o) 0 ≡ number
        → (text : List ℕ) × (values_of number_name fields ≡ text ∷ []) × IsNumber text number × (number < 2 ^ 32)
    by None e some is = absurd (let other : true ≡ false = some in cc)
    by (Some text) e some is = let facts = by_text text (number_below (2 ^ 32) text) refl some is in (text, value_is number_name fields text e, facts.0, facts.1)

no_place : (o : Option ℕ) (f : ℕ → Cause) → option_map f o ≡ None → o ≡ None
no_place None f is = refl
no_place (Some at) f is = absurd cc

list_from : (body : List ℕ) → list_fault body ≡ None → (bad_place 0 (texts_in body) ≡ None) × (count_in (texts_in body) ≤ 4096)
unfolding list_fault
list_from body none =
    let first = none_hold _ _ none in
    let second = none_hold _ _ first.1 in
    (no_place (bad_place 0 (texts_in body)) _ first.0, ltb-false 4096 (count_in (texts_in body)) (cause_fails _ _ second.0))

faults_from : (fields : List Pair) (body : List ℕ) → descriptor_fault fields body ≡ None
    → (is_none (number_in (value_of number_name fields)) ≡ false) × (list_fault body ≡ None)
unfolding descriptor_fault
faults_from fields body none =
    let later = fault_when (is_none (number_in (value_of number_name fields))) BadNumber ∷ list_fault body ∷ [] in
    let first = none_hold (fault_when (is_none (value_of number_name fields)) NoNumber) later none in
    let second = none_hold (fault_when (is_none (number_in (value_of number_name fields))) BadNumber) (list_fault body ∷ []) first.1 in
    let third = none_hold (list_fault body) [] second.1 in
    (cause_fails (is_none (number_in (value_of number_name fields))) BadNumber second.0, third.0)

descriptor_from : (object : List ℕ) (parts : Parts) (number : ℕ) (listed : List ℕ) → SpellsObject object parts.descriptor parts.fields parts.body
    → kind_of_parts parts ≡ Descriptor number listed → ReadsDescriptor object number listed
unfolding kind_of_parts
descriptor_from object parts number listed spells is =
    let read = usable_from (cause_of parts) (usable parts.descriptor parts.fields parts.body) (Descriptor number listed) is (λ cause same. cc) in
    by parts.descriptor refl (sound_from parts read.0) read.0 read.1
  where
    by : (d : Bool) → parts.descriptor ≡ d → Sound parts → cause_of parts ≡ None
        → usable d parts.fields parts.body ≡ Descriptor number listed → ReadsDescriptor object number listed
    by false sort sound none made = absurd cc
    by true sort sound none made =
        let number_is : unwrap_or (number_in (value_of number_name parts.fields)) 0 ≡ number = cc in
        let listed_is : first_places (identifiers_in (texts_in parts.body)) ≡ listed = cc in
        let faults = faults_from parts.fields parts.body (sym (descriptor_cause parts sound.once sound.same sort) ∙ none) in
        let told = number_facts parts.fields number faults.0 number_is in
        let good = list_from parts.body faults.1 in
        let list = spells_list parts.body good.0 in
        let count : count_of list.0 ≡ count_in (texts_in parts.body) = sym (entries_count list.1.texts list.0 list.1.spelled) ∙ ap count_in list.2 in
        let tois : identifiers_of list.0 ≡ identifiers_in (texts_in parts.body) =
        sym (entries_identifiers list.1.texts list.0 list.1.spelled) ∙ ap identifiers_in list.2 in
        record {
          fields = parts.fields;
          body = parts.body;
          spells = subst (λ d. SpellsObject object d parts.fields parts.body) sort spells;
          once = known_from parts.fields sound.once;
          stated = stated_from parts.fields (length parts.body) sound.same;
          number_text = told.0;
          numbered = told.1;
          is_number = told.2;
          number_fits = told.3;
          entries = list.0;
          lists = list.1;
          few = omega (arith, count, good.1);
          in_order = sym listed_is ∙ ap first_places (sym tois);
        }

pub reads_descriptor : (object : List ℕ) (number : ℕ) (listed : List ℕ) → AreBytes object
    → kind_of_object object ≡ Descriptor number listed → ReadsDescriptor object number listed
unfolding kind_of_object
reads_descriptor object number listed bytes is = by (reading object) refl is
  where
    by : (r : Result Parts CompoundFault) → reading object ≡ r → kind_read r ≡ Descriptor number listed → ReadsDescriptor object number listed
    by (Ok parts) read e = descriptor_from object parts number listed (spelled-reading object parts bytes read) e
    by (Err fault) read e = absurd cc

pub descriptor_read : (object : List ℕ) (number : ℕ) (listed : List ℕ) → ReadsDescriptor object number listed → kind_of_object object ≡ Descriptor number listed
unfolding kind_of_object descriptor_fault
descriptor_read object number listed d =
    let parts : Parts = record { descriptor = true; fields = d.fields; body = d.body } in
    let once = known_to d.fields d.once in
    let same = stated_to d.fields (length d.body) d.stated in
    let text = value_to number_name d.fields d.number_text d.numbered in
    let read = number_to (2 ^ 32) d.number_text number d.is_number d.number_fits in
    let texts = texts_spelled d.body d.entries d.lists in
    let good : bad_place 0 (texts_in d.body) ≡ None = ap (bad_place 0) texts ∙ entries_good 0 d.lists.texts d.entries d.lists.spelled in
    let count : count_in (texts_in d.body) ≡ count_of d.entries = ap count_in texts ∙ entries_count d.lists.texts d.entries d.lists.spelled in
    let tois : identifiers_in (texts_in d.body) ≡ identifiers_of d.entries = ap identifiers_in texts ∙ entries_identifiers d.lists.texts d.entries d.lists.spelled in
    let list : list_fault d.body ≡ None = list_sound d.body good (omega (arith, count, d.few)) in
    let number_is : number_in (value_of number_name d.fields) ≡ Some number = ap number_in text ∙ read in
    let fault : descriptor_fault d.fields d.body ≡ None = rw (text, read, list) refl in
    ap kind_read (reading-spelled object true d.fields d.body d.spells)
    ∙ descriptor_kind parts refl (descriptor_cause parts once same refl)
    ∙ ap (λ o. kind_unless o (descriptor_in d.fields d.body)) fault
    ∙ (λ i. Descriptor (unwrap_or (number_is i) 0) (first_places (tois i)))
    ∙ ap (λ ts. Descriptor number ts) (sym d.in_order)

-- what a descriptor lists differs
pub listed_differ : (object : List ℕ) (number : ℕ) (listed : List ℕ) → ReadsDescriptor object number listed → are_different listed ≡ true
listed_differ object number listed d = ap are_different d.in_order ∙ first_places_differ (identifiers_of d.entries)

-- ---- both ways

pub file_where_read : (object location : List ℕ) (kind : Option (List ℕ)) (body : List ℕ) → AreBytes object
    → (kind_of_object object ≡ File location kind body) ↔ ReadsFile object location kind body
file_where_read object location kind body bytes = (reads_file object location kind body bytes, file_read object location kind body)

pub descriptor_where_read : (object : List ℕ) (number : ℕ) (listed : List ℕ) → AreBytes object
    → (kind_of_object object ≡ Descriptor number listed) ↔ ReadsDescriptor object number listed
descriptor_where_read object number listed bytes = (reads_descriptor object number listed bytes, descriptor_read object number listed)

-- ---- of an answer that is the kind

pub file_exactly : (object : List ℕ) (r : Result Kind AllocError) → AreBytes object → IfOk r (λ k. k ≡ kind_of_object object)
    → (location : List ℕ) (kind : Option (List ℕ)) (body : List ℕ) → IfOk r (λ k. (k ≡ File location kind body) ↔ ReadsFile object location kind body)
file_exactly object (Ok k) bytes is location kind body =
    (λ e. reads_file object location kind body bytes (sym is ∙ e), λ f. is ∙ file_read object location kind body f)
file_exactly object (Err e) bytes is location kind body = tt

pub descriptor_exactly : (object : List ℕ) (r : Result Kind AllocError) → AreBytes object → IfOk r (λ k. k ≡ kind_of_object object)
    → (number : ℕ) (listed : List ℕ) → IfOk r (λ k. (k ≡ Descriptor number listed) ↔ ReadsDescriptor object number listed)
descriptor_exactly object (Ok k) bytes is number listed =
    (λ e. reads_descriptor object number listed bytes (sym is ∙ e), λ d. is ∙ descriptor_read object number listed d)
descriptor_exactly object (Err e) bytes is number listed = tt

pub listed_exactly : (object : List ℕ) (r : Result Kind AllocError) → AreBytes object → IfOk r (λ k. k ≡ kind_of_object object)
    → (number : ℕ) (listed : List ℕ) → IfOk r (λ k. k ≡ Descriptor number listed → are_different listed ≡ true)
listed_exactly object (Ok k) bytes is number listed = λ e. listed_differ object number listed (reads_descriptor object number listed bytes (sym is ∙ e))
listed_exactly object (Err e) bytes is number listed = tt
