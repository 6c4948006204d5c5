-- Each list of bytes begins with a header or has a first fault.
use Rattle.std.proofs.Common.{◌≡◌, ℕ, zero, suc, ◌+◌, ◌-◌, ◌*◌, ◌%◌, ◌<◌, ◌≤◌, Bool, true, false, cond, eqb, ltb, List, [], ◌∷◌}
use Rattle.std.proofs.Common.{◌++◌, length, take, drop, Option, Some, None, refl, sym, ap, subst, ◌∙◌, append_assoc, arith, inl}
use Rattle.std.proofs.Common.{inr, ◌⊎◌}
use Rattle.std.proofs.lemmas.Bool.{cases_lt, cases_eq, eqb-true, ltb-true, or_cases}
use Rattle.std.proofs.lemmas.List.{length-append}
use Rattle.wire_bytes.specs.Bytes.{AreBytes}
use Rattle.wire_bytes.proofs.Public.{length_piece}
use Rattle.lct_header.specs.declared.fault.HeaderFault.{HeaderFault}
use Rattle.lct_header.specs.declared.fault.HeaderFault.TheVariants.{Short, Version, LengthField, ExtensionZero, ExtensionLong}
use Rattle.lct_header.specs.Extension.{Extension, IsExtension}
use Rattle.lct_header.specs.Extensions.{IsArea}
use Rattle.lct_header.specs.Word.{fixed_length, version}
use Rattle.lct_header.specs.HeaderView.{HeaderView, StartsWithHeader}
use Rattle.lct_header.specs.Faults.{HasNoLength, PassesEnd, StopsAt, IsFirstFault}
use Rattle.lct_header.specs.Inner.Extensions.{measured, first_of}
use Rattle.lct_header.specs.Inner.Word.{word_in}
use Rattle.lct_header.specs.Inner.Faults.{IsAreaFault}
use Rattle.lct_header.proofs.Splitting.{first_of-takes, step}
use Rattle.lct_header.specs.Answer.{area_at, view_at}
use Rattle.lct_header.proofs.Layouts.{HasLayout}
use Rattle.lct_header.proofs.Found.{wrong_length, area_fault, view_starts}

-- ---- the extensions

-- a choice of nothing
guard_none : {A : Type 0} (b : Bool) (x : A) → cond b None (Some x) ≡ None → b ≡ true
guard_none true x e = refl
guard_none false x e = absurd cc

-- where no extension begins whole words, the first one there has no length or passes the end
none_on : (b : Bool) (het hel : ℕ) (bytes : List ℕ) → ltb het 128 ≡ b → length (het ∷ hel ∷ bytes) % 4 ≡ 0
    → cond b (measured het (hel ∷ bytes))
    (cond (ltb (length (hel ∷ bytes)) 3) None (Some (record { het = het; content = take 3 (hel ∷ bytes) }, drop 3 (hel ∷ bytes)))) ≡ None
    → HasNoLength (het ∷ hel ∷ bytes) ⊎ PassesEnd (het ∷ hel ∷ bytes)
none_on true het hel bytes low words none =
    let low_is : het < 128 = ltb-true het 128 low in
    elim (or_cases (eqb hel 0) (ltb (length bytes + 2) (4 * hel)) (guard_none _ _ none)) [
      | inl null ↦ inl (low_is, eqb-true hel 0 null)
      | inr past ↦ let lt : length bytes + 2 < 4 * hel = ltb-true (length bytes + 2) (4 * hel) past in inr (low_is, omega arith)
    ]
none_on false het hel bytes high words none =
    let short : length (hel ∷ bytes) < 3 = ltb-true (length (hel ∷ bytes)) 3 (guard_none _ _ none) in
    absurd (omega (arith, short, words))

none_first : (bytes : List ℕ) → 0 < length bytes → length bytes % 4 ≡ 0 → first_of bytes ≡ None → HasNoLength bytes ⊎ PassesEnd bytes
none_first [] some words none = absurd (omega arith)
none_first (het ∷ []) some words none = absurd (omega arith)
none_first (het ∷ hel ∷ bytes) some words none = none_on (ltb het 128) het hel bytes refl words none

-- a fault of the other extensions, behind a first one
stops_later : (first others : List ℕ) (e : Extension) (start at : ℕ) (IsFaulty : List ℕ → Type 0)
    → IsExtension first e → StopsAt others (start + length first) at IsFaulty → StopsAt (first ++ others) start at IsFaulty
stops_later first others e start at IsFaulty is stops = record {
  before = e ∷ stops.before;
  front = first ++ stops.front;
  faulty = stops.faulty;
  extensions = (first, stops.front, is, refl, stops.extensions);
  joined = ap (λ (xs : List ℕ). first ++ xs) stops.joined ∙ sym (append_assoc first stops.front stops.faulty);
  place = omega (arith, stops.place, length-append first stops.front);
  fault = stops.fault;
}

fault_later : (first others : List ℕ) (e : Extension) (start : ℕ) (fault : HeaderFault) → IsExtension first e
    → IsAreaFault others (start + length first) fault → IsAreaFault (first ++ others) start fault
fault_later first others e start Short is fault = absurd fault
fault_later first others e start Version is fault = absurd fault
fault_later first others e start LengthField is fault = absurd fault
fault_later first others e start (ExtensionZero at) is fault = stops_later first others e start at HasNoLength is fault
fault_later first others e start (ExtensionLong at) is fault = stops_later first others e start at PassesEnd is fault

-- an area of extensions, or its first fault
abbrev AreaOrFault : List ℕ → ℕ → Type 0
AreaOrFault area start = IsArea area ⊎ ((fault : HeaderFault) × IsAreaFault area start fault)

-- of an extension and others
with_first : (first others : List ℕ) (e : Extension) (start : ℕ) → IsExtension first e → AreaOrFault others (start + length first) → AreaOrFault (first ++ others) start
with_first first others e start is rest = elim rest [
  | inl area ↦ inl (e ∷ area.0, (first, others, is, refl, area.1))
  | inr fault ↦ inr (fault.0, fault_later first others e start fault.0 is fault.1)
]

-- of what no extension begins
with_none : (area : List ℕ) (start : ℕ) → HasNoLength area ⊎ PassesEnd area → AreaOrFault area start
with_none area start fault = elim fault [
  | inl zero_length ↦ inr (
    ExtensionZero start,
    record { before = []; front = []; faulty = area; extensions = refl; joined = refl; place = omega arith; fault = zero_length },
  )
  | inr past ↦ inr (ExtensionLong start, record { before = []; front = []; faulty = area; extensions = refl; joined = refl; place = omega arith; fault = past })
]

-- by what the first extension is, and the others behind it
by_first : (o : Option (Extension × List ℕ)) (area : List ℕ) (start : ℕ) → first_of area ≡ o → 0 < length area → length area % 4 ≡ 0
    → ((others : List ℕ) (from : ℕ) → length others < length area → length others % 4 ≡ 0 → AreaOrFault others from) → AreaOrFault area start
by_first None area start is some words later = with_none area start (none_first area some words is)
by_first (Some (e, others)) area start is some words later =
    let cut = first_of-takes area e others is in
    let less = step area e others is in
    subst (λ (xs : List ℕ). AreaOrFault xs start) (sym cut.2)
    (with_first cut.0 others e start cut.1 (later others (start + length cut.0) less.0 (omega (arith, less.1, words))))

area_or_fault : (n : ℕ) (area : List ℕ) (start : ℕ) → length area ≤ n → length area % 4 ≡ 0 → AreaOrFault area start
area_or_fault zero [] start le words = inl ([], refl)
area_or_fault zero (x ∷ xs) start le words = absurd (omega arith)
area_or_fault (suc n) [] start le words = inl ([], refl)
area_or_fault (suc n) (x ∷ xs) start le words = by_first (first_of (x ∷ xs))
    (x ∷ xs) start refl (omega arith) words (λ others from less whole. area_or_fault n others from (omega arith) whole)

-- ---- all of the bytes

abbrev HeaderOrFault : List ℕ → Type 0
HeaderOrFault bytes = ((v : HeaderView) × StartsWithHeader bytes v) ⊎ ((fault : HeaderFault) × IsFirstFault bytes fault)

-- where the fixed fields and the stated length are right
with_layout : (bytes : List ℕ) → AreBytes bytes → HasLayout bytes → HeaderOrFault bytes
with_layout bytes are has =
    let w = word_in bytes in
    let above : fixed_length w ≤ 4 * w.words = has.above in
    let len : length (area_at w bytes) ≡ 4 * w.words - fixed_length w = length_piece (fixed_length w) (4 * w.words) bytes above has.within in
    elim (area_or_fault (length (area_at w bytes)) (area_at w bytes) (fixed_length w) (omega arith) (omega (arith, len, above))) [
      | inl area ↦ inl (view_at w bytes, view_starts bytes are has area)
      | inr fault ↦ inr (fault.0, area_fault bytes fault.0 are has fault.1)
    ]

-- where the version is right
with_word : (bytes : List ℕ) → AreBytes bytes → 4 ≤ length bytes → version bytes ≡ 1 → HeaderOrFault bytes
with_word bytes are long first =
    elim (cases_lt (4 * (word_in bytes).words) (fixed_length (word_in bytes))) [
      | inl below ↦ inr (LengthField, wrong_length bytes are long first (inl below))
      | inr above ↦ elim (cases_lt (length bytes) (4 * (word_in bytes).words)) [
        | inl beyond ↦ inr (LengthField, wrong_length bytes are long first (inr beyond))
        | inr within ↦ with_layout bytes are (record { long = long; first = first; above = above; within = within })
      ]
    ]

pub header_or_fault : (bytes : List ℕ) → AreBytes bytes → HeaderOrFault bytes
header_or_fault bytes are =
    elim (cases_lt (length bytes) 4) [
      | inl short ↦ inr (Short, short)
      | inr long ↦ elim (cases_eq (version bytes) 1) [
        | inl first ↦ with_word bytes are long first
        | inr other ↦ inr (Version, (long, other))
      ]
    ]
