-- The one answer for each list of bytes.
use Rattle.std.proofs.Common.{◌≡◌, ℕ, ◌+◌, ◌-◌, ◌*◌, ◌<◌, ◌≤◌, true, false, eqb, ltb, List, [], ◌∷◌, ◌++◌, length, None, Result}
use Rattle.std.proofs.Common.{Ok, Err, refl, sym, ap, subst, ◌∙◌, arith, inl, inr, ◌⊎◌}
use Rattle.std.specs.Prelude.{◌||◌, IfOk, IfErr}
use Rattle.std.proofs.lemmas.Bool.{ne_eqb, eq-eqb, lt-ltb, le-ltb, or_left, or_right, or_from}
use Rattle.std.proofs.lemmas.List.{append-nil, length-append}
use Rattle.lct_header.specs.declared.fault.HeaderFault.{HeaderFault}
use Rattle.lct_header.specs.declared.fault.HeaderFault.TheVariants.{Short, Version, LengthField, ExtensionZero, ExtensionLong}
use Rattle.lct_header.specs.Extension.{Extension}
use Rattle.lct_header.specs.Word.{FirstWord, fixed_length, version}
use Rattle.lct_header.specs.Header.{Header, header_of}
use Rattle.lct_header.specs.HeaderView.{HeaderView, IsLaidOut, StartsWithHeader}
use Rattle.lct_header.specs.Faults.{HasNoLength, PassesEnd, StopsAt, HasWrongLength, IsFirstFault}
use Rattle.lct_header.specs.Answer.{stop_at, answer_of, answer}
use Rattle.lct_header.specs.Inner.Extensions.{first_of, split}
use Rattle.lct_header.specs.Inner.Word.{word_in}
use Rattle.lct_header.proofs.Words.{word_again}
use Rattle.lct_header.proofs.Splitting.{split-area}
use Rattle.lct_header.proofs.Layouts.{found}

-- ---- it is the answer of the definitions

-- past the tests of the first word
past_word : (bytes : List ℕ) → 4 ≤ length bytes → version bytes ≡ 1 → answer bytes ≡ answer_of bytes (word_in bytes)
unfolding answer
past_word bytes long first =
    let a : ltb (length bytes) 4 ≡ false = le-ltb (length bytes) 4 long in
    let b : eqb (version bytes) 1 ≡ true = eq-eqb (version bytes) 1 first in
    rw (a, b) refl

-- past the layout only the extensions are left
past_layout : (bytes : List ℕ) (w : FirstWord) (tsi toi area rest : List ℕ) → IsLaidOut bytes w tsi toi area rest
    → answer bytes ≡ stop_at (fixed_length w + length area) (record { header = header_of w tsi toi; length = 4 * w.words; area = area }) (split (length area) area).1
past_layout bytes w tsi toi area rest laid =
    let is = found bytes w tsi toi area rest laid in
    let above : fixed_length w ≤ 4 * w.words = subst (λ (x : FirstWord). fixed_length x ≤ 4 * x.words) is.word_is is.layout.above in
    let within : 4 * w.words ≤ length bytes = subst (λ (x : FirstWord). 4 * x.words ≤ length bytes) is.word_is is.layout.within in
    let right : (ltb (4 * w.words) (fixed_length w) || ltb (length bytes) (4 * w.words)) ≡ false =
    or_from _ _ (le-ltb (4 * w.words) (fixed_length w) above) (le-ltb (length bytes) (4 * w.words) within) in
    past_word bytes is.layout.long is.layout.first ∙ ap (answer_of bytes) is.word_is ∙ rw (right, is.tsi_is, is.toi_is, is.area_is) refl

-- a view by its parts
made : (v : HeaderView) (header : Header) (n : ℕ) → header ≡ v.header → n ≡ v.length
    → ◌≡◌ {A = Result HeaderView HeaderFault} (Ok (record { header = header; length = n; area = v.area })) (Ok v)
made v header n a b = rw (a, b) refl

-- a header that begins the bytes is the answer
pub answer_view : (bytes : List ℕ) (v : HeaderView) → StartsWithHeader bytes v → answer bytes ≡ Ok v
answer_view bytes v (rest, is) =
    let stops : split (length v.area) (v.area ++ []) ≡ (is.extensions.0, []) =
    split-area (length v.area) is.extensions.0 v.area [] (omega (arith, length-append v.area [])) is.extensions.1 refl in
    let none : (split (length v.area) v.area).1 ≡ [] = ap (λ (xs : List ℕ). (split (length v.area) xs).1)
    (sym (append-nil v.area)) ∙ ap (λ (p : List Extension × List ℕ). p.1) stops in
    past_layout bytes is.word is.tsi is.toi v.area rest is.layout
    ∙ ap (stop_at _ _) none
    ∙ made v (header_of is.word is.tsi is.toi) (4 * is.word.words) (sym is.header) (sym is.length)

-- ---- faults

-- the tests of a wrong length
wrong_test : (n fixed all : ℕ) → (n < fixed) ⊎ (all < n) → (ltb n fixed || ltb all n) ≡ true
wrong_test n fixed all wrong = elim wrong [ inl lt ↦ or_left _ _ (lt-ltb n fixed lt) | inr lt ↦ or_right _ _ (lt-ltb all n lt) ]

-- a wrong length is the answer
answer_length : (bytes : List ℕ) → HasWrongLength bytes → answer bytes ≡ Err LengthField
answer_length bytes is =
    let again = word_again is.front is.word is.rest is.spells in
    let word : word_in bytes ≡ is.word = ap word_in is.joined ∙ again.0 in
    let first : version bytes ≡ 1 = ap version is.joined ∙ again.1 in
    let len : length is.front ≡ 4 = ap length is.spells.spelling in
    let long : 4 ≤ length bytes = omega (arith, ap length is.joined, length-append is.front is.rest) in
    let wrong = wrong_test (4 * is.word.words) (fixed_length is.word) (length bytes) is.wrong in
    past_word bytes long first ∙ ap (answer_of bytes) word ∙ rw wrong refl

-- an extension of no length is no extension
no_length-none : (bytes : List ℕ) → HasNoLength bytes → first_of bytes ≡ None
no_length-none [] is = absurd is
no_length-none (het ∷ []) is = absurd is
no_length-none (het ∷ hel ∷ bytes) is =
    let low : ltb het 128 ≡ true = lt-ltb het 128 is.0 in
    let zero_is : eqb hel 0 ≡ true = eq-eqb hel 0 is.1 in
    rw (low, zero_is) refl

-- nor is one that passes the end
passes_end-none : (bytes : List ℕ) → PassesEnd bytes → first_of bytes ≡ None
passes_end-none [] is = absurd is
passes_end-none (het ∷ []) is = absurd is
passes_end-none (het ∷ hel ∷ bytes) is =
    let low : ltb het 128 ≡ true = lt-ltb het 128 is.0 in
    let short : ltb (length bytes + 2) (4 * hel) ≡ true = lt-ltb (length bytes + 2) (4 * hel) (omega (arith, is.1)) in
    let test : (eqb hel 0 || ltb (length bytes + 2) (4 * hel)) ≡ true = or_right (eqb hel 0) _ short in
    rw (low, test) refl

-- the extensions stop at what is faulty
stops : (area : List ℕ) (start at : ℕ) (IsFaulty : List ℕ → Type 0) → ((bytes : List ℕ) → IsFaulty bytes → first_of bytes ≡ None) → (is : StopsAt area start at IsFaulty)
    → ((split (length area) area).1 ≡ is.faulty) × (start + length area - length is.faulty ≡ at)
stops area start at IsFaulty never is =
    let len : length area ≡ length is.front + length is.faulty = ap length is.joined ∙ length-append is.front is.faulty in
    let same : split (length area) (is.front ++ is.faulty) ≡ (is.before, is.faulty) = split-area (length area) is.before
    is.front is.faulty (omega (arith, length-append is.front is.faulty)) is.extensions (never is.faulty is.fault) in
    (ap (λ (xs : List ℕ). (split (length area) xs).1) is.joined ∙ ap (λ (p : List Extension × List ℕ). p.1) same, omega (arith, is.place))

-- the answer at an extension of no length
stop_at-no_length : (end at : ℕ) (v : HeaderView) (faulty : List ℕ) → HasNoLength faulty → end - length faulty ≡ at → stop_at end v faulty ≡ Err (ExtensionZero at)
stop_at-no_length end at v [] is place = absurd is
stop_at-no_length end at v (het ∷ []) is place = absurd is
stop_at-no_length end at v (het ∷ hel ∷ bytes) is place =
    let zero_is : eqb hel 0 ≡ true = eq-eqb hel 0 is.1 in
    rw (zero_is, place) refl

-- and at one that passes the end
stop_at-passes_end : (end at : ℕ) (v : HeaderView) (faulty : List ℕ) → PassesEnd faulty → end - length faulty ≡ at → stop_at end v faulty ≡ Err (ExtensionLong at)
stop_at-passes_end end at v [] is place = absurd is
stop_at-passes_end end at v (het ∷ []) is place = absurd is
stop_at-passes_end end at v (het ∷ hel ∷ bytes) is place =
    let some : eqb hel 0 ≡ false = ne_eqb hel 0 (λ e. omega (arith, is.1)) in
    rw (some, place) refl

-- a first fault is the answer
pub answer_fault : (bytes : List ℕ) (fault : HeaderFault) → IsFirstFault bytes fault → answer bytes ≡ Err fault
unfolding answer
answer_fault bytes Short is = let a : ltb (length bytes) 4 ≡ true = lt-ltb (length bytes) 4 is in rw a refl
answer_fault bytes Version is =
    let a : ltb (length bytes) 4 ≡ false = le-ltb (length bytes) 4 is.0 in
    let b : eqb (version bytes) 1 ≡ false = ne_eqb (version bytes) 1 is.1 in
    rw (a, b) refl
answer_fault bytes LengthField is = answer_length bytes is
answer_fault bytes (ExtensionZero at) is =
    let s = stops is.area (fixed_length is.word) at HasNoLength no_length-none is.stops in
    past_layout bytes is.word is.tsi is.toi is.area is.rest is.layout ∙ ap (stop_at _ _) s.0 ∙ stop_at-no_length _ at _ is.stops.faulty is.stops.fault s.1
answer_fault bytes (ExtensionLong at) is =
    let s = stops is.area (fixed_length is.word) at PassesEnd passes_end-none is.stops in
    past_layout bytes is.word is.tsi is.toi is.area is.rest is.layout ∙ ap (stop_at _ _) s.0 ∙ stop_at-passes_end _ at _ is.stops.faulty is.stops.fault s.1

-- ---- laws

-- what is found or refused is the answer
pub the_answer : (bytes : List ℕ) (r : Result HeaderView HeaderFault)
    → IfOk r (λ v. StartsWithHeader bytes v) → IfErr r (λ fault. IsFirstFault bytes fault) → r ≡ answer bytes
the_answer bytes (Ok v) starts refused = sym (answer_view bytes v starts)
the_answer bytes (Err fault) starts refused = sym (answer_fault bytes fault refused)

-- no bytes begin with two headers
pub one_header : (bytes : List ℕ) (v w : HeaderView) → StartsWithHeader bytes v → StartsWithHeader bytes w → v ≡ w
one_header bytes v w a b = let same : ◌≡◌ {A = Result HeaderView HeaderFault} (Ok v) (Ok w) = sym (answer_view bytes v a) ∙ answer_view bytes w b in cc

-- nor with a header where there is a fault
pub not_both : (bytes : List ℕ) (v : HeaderView) (fault : HeaderFault) → StartsWithHeader bytes v → IsFirstFault bytes fault → ⊥
not_both bytes v fault a b = let same : ◌≡◌ {A = Result HeaderView HeaderFault} (Ok v) (Err fault) = sym (answer_view bytes v a) ∙ answer_fault bytes fault b in cc

-- and there is one first fault
pub one_fault : (bytes : List ℕ) (f g : HeaderFault) → IsFirstFault bytes f → IsFirstFault bytes g → f ≡ g
one_fault bytes f g a b = let same : ◌≡◌ {A = Result HeaderView HeaderFault} (Err f) (Err g) = sym (answer_fault bytes f a) ∙ answer_fault bytes g b in cc
