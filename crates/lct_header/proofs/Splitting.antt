-- Extensions, cut from an area one after the other.
use Rattle.std.proofs.Common.{◌≡◌, ℕ, zero, suc, ◌+◌, ◌-◌, ◌*◌, ◌%◌, ◌<◌, ◌≤◌, Bool, true, false, cond, eqb, ltb, List, [], ◌∷◌}
use Rattle.std.proofs.Common.{◌++◌, length, take, drop, Option, Some, None, refl, sym, ap, subst, ◌∙◌, append_assoc, arith, inl}
use Rattle.std.proofs.Common.{inr}
use Rattle.std.specs.Prelude.{◌||◌}
use Rattle.std.proofs.lemmas.Bool.{eqb-false, ne_eqb, ltb-true, ltb-false, lt-ltb, le-ltb, or_parts}
use Rattle.std.proofs.lemmas.List.{append-nil, length-append, length-take, take-append-drop, take_at, drop_at}
use Rattle.std.proofs.lemmas.Option.{same_Some}
use Rattle.lct_header.specs.Extension.{Extension, IsExtension}
use Rattle.lct_header.specs.Extensions.{AreExtensions, IsArea}
use Rattle.lct_header.specs.Inner.Extensions.{measured, first_of, before_others, split, extensions_in}

-- ---- one extension

-- an extension of a length is the first
measured_first : (e : Extension) (hel : ℕ) (others : List ℕ) → e.het < 128 → 0 < hel
    → length e.content + 2 ≡ 4 * hel → first_of (e.het ∷ hel ∷ (e.content ++ others)) ≡ Some (e, others)
measured_first e hel others low some whole =
    let n : 4 * hel - 2 ≡ length e.content = omega arith in
    let low_is : ltb e.het 128 ≡ true = lt-ltb e.het 128 low in
    let some_is : eqb hel 0 ≡ false = ne_eqb hel 0 (λ e. omega arith) in
    let long : ltb (length (e.content ++ others) + 2) (4 * hel) ≡ false =
    le-ltb (length (e.content ++ others) + 2) (4 * hel) (omega (arith, length-append e.content others)) in
    rw (low_is, some_is, long, n, take_at e.content others (length e.content) refl, drop_at e.content others (length e.content) refl) refl

-- an extension of one word is the first
one_word_first : (e : Extension) (others : List ℕ) → 128 ≤ e.het → length e.content ≡ 3 → first_of (e.het ∷ (e.content ++ others)) ≡ Some (e, others)
one_word_first e others high whole =
    let high_is : ltb e.het 128 ≡ false = le-ltb e.het 128 high in
    let long : ltb (length (e.content ++ others)) 3 ≡ false = le-ltb (length (e.content ++ others)) 3 (omega (arith, length-append e.content others)) in
    rw (high_is, long, take_at e.content others 3 whole, drop_at e.content others 3 whole) refl

-- an extension at the front is the first
pub first_of-extension : (first : List ℕ) (e : Extension) (others : List ℕ) → IsExtension first e → first_of (first ++ others) ≡ Some (e, others)
first_of-extension first e others is =
    elim is [
      | inl m ↦ ap (λ (xs : List ℕ). first_of (xs ++ others)) m.spelling ∙ measured_first e m.hel others m.low
          m.some (let n : length (e.het ∷ m.hel ∷ e.content) ≡ 4 * m.hel = sym (ap length m.spelling) ∙ m.whole in omega arith)
      | inr o ↦ ap (λ (xs : List ℕ). first_of (xs ++ others)) o.spelling
          ∙ one_word_first e others o.high (let n : length (e.het ∷ e.content) ≡ 4 = sym (ap length o.spelling) ∙ o.whole in omega arith)
    ]

-- a choice of something
guard_some : {A : Type 0} (b : Bool) (x y : A) → cond b None (Some x) ≡ Some y → (b ≡ false) × (x ≡ y)
guard_some true x y e = absurd cc
guard_some false x y e = (refl, cc)

-- the bytes are an extension, and what follows
abbrev IsCut : List ℕ → Extension × List ℕ → Type 0
IsCut bytes p = (first : List ℕ) × IsExtension first p.0 × (bytes ≡ first ++ p.1)

-- of an extension with a length
measured_takes : (het : ℕ) (bytes : List ℕ) (p : Extension × List ℕ) → het < 128 → measured het bytes ≡ Some p → IsCut (het ∷ bytes) p
measured_takes het [] p low e = absurd cc
measured_takes het (hel ∷ bytes) p low e =
    let n = 4 * hel - 2 in
    let made : Extension × List ℕ = (record { het = het; content = take n bytes }, drop n bytes) in
    let g = guard_some (eqb hel 0 || ltb (length bytes + 2) (4 * hel)) made p e in
    let tests = or_parts (eqb hel 0) (ltb (length bytes + 2) (4 * hel)) g.0 in
    let long : 4 * hel ≤ length bytes + 2 = ltb-false _ _ tests.1 in
    let some : 0 < hel = omega (arith, eqb-false hel 0 tests.0) in
    let len : length (take n bytes) + 2 ≡ 4 * hel = omega (arith, length-take n bytes) in
    subst (λ (q : Extension × List ℕ). IsCut (het ∷ hel ∷ bytes) q) g.1 (
      het ∷ hel ∷ take n bytes,
      inl (record { hel = hel; low = low; some = some; spelling = refl; whole = omega (arith, len) }),
      ap (λ (xs : List ℕ). het ∷ hel ∷ xs) (sym (take-append-drop n bytes)),
    )

-- of an extension of one word
one_word_takes : (het : ℕ) (bytes : List ℕ) (p : Extension × List ℕ) → 128 ≤ het
    → cond (ltb (length bytes) 3) None (Some (record { het = het; content = take 3 bytes }, drop 3 bytes)) ≡ Some p → IsCut (het ∷ bytes) p
one_word_takes het bytes p high e =
    let made : Extension × List ℕ = (record { het = het; content = take 3 bytes }, drop 3 bytes) in
    let g = guard_some (ltb (length bytes) 3) made p e in
    let long : 3 ≤ length bytes = ltb-false _ _ g.0 in
    let len : length (take 3 bytes) ≡ 3 = omega (arith, length-take 3 bytes) in
    subst (λ (q : Extension × List ℕ). IsCut (het ∷ bytes) q) g.1
    (het ∷ take 3 bytes, inr (record { high = high; spelling = refl; whole = omega (arith, len) }), ap (λ (xs : List ℕ). het ∷ xs) (sym (take-append-drop 3 bytes)))

-- of either
takes_on : (b : Bool) (het : ℕ) (bytes : List ℕ) (p : Extension × List ℕ) → ltb het 128 ≡ b
    → cond b (measured het bytes) (cond (ltb (length bytes) 3) None (Some (record { het = het; content = take 3 bytes }, drop 3 bytes))) ≡ Some p → IsCut (het ∷ bytes) p
takes_on true het bytes p is e = measured_takes het bytes p (ltb-true _ _ is) e
takes_on false het bytes p is e = one_word_takes het bytes p (ltb-false _ _ is) e

-- what is first is an extension, and what follows it
pub first_of-takes : (bytes : List ℕ) (e : Extension) (others : List ℕ)
    → first_of bytes ≡ Some (e, others) → (first : List ℕ) × IsExtension first e × (bytes ≡ first ++ others)
first_of-takes [] e others is = absurd cc
first_of-takes (het ∷ bytes) e others is = takes_on (ltb het 128) het bytes (e, others) refl is

-- an extension is one word at least, and whole words
extension_words : (first : List ℕ) (e : Extension) → IsExtension first e → (4 ≤ length first) × (length first % 4 ≡ 0)
extension_words first e is = elim is [ inl m ↦ (omega (arith, m.whole, m.some), omega (arith, m.whole)) | inr o ↦ (omega (arith, o.whole), omega (arith, o.whole)) ]

-- what follows the first is less, by whole words
pub step : (bytes : List ℕ) (e : Extension) (others : List ℕ) → first_of bytes ≡ Some (e, others)
    → (length others < length bytes) × (length others % 4 ≡ length bytes % 4)
step bytes e others is =
    let cut = first_of-takes bytes e others is in
    let words = extension_words cut.0 e cut.1 in
    let len : length bytes ≡ length cut.0 + length others = ap length cut.2 ∙ length-append cut.0 others in
    (omega (arith, words.0), omega (arith, words.1))

-- ---- lists of extensions

-- an area is whole words
pub area_words : (es : List Extension) (area : List ℕ) → AreExtensions area es → length area % 4 ≡ 0
area_words [] area are = rw are refl
area_words (e ∷ es) area are =
    let one = extension_words are.0 e are.2 in
    let more = area_words es are.1 are.4 in
    let len : length area ≡ length are.0 + length are.1 = ap length are.3 ∙ length-append are.0 are.1 in
    omega (arith, one.1)

-- each extension takes a word at least
pub area_count : (es : List Extension) (area : List ℕ) → AreExtensions area es → 4 * length es ≤ length area
area_count [] area are = omega arith
area_count (e ∷ es) area are =
    let one = extension_words are.0 e are.2 in
    let more = area_count es are.1 are.4 in
    let len : length area ≡ length are.0 + length are.1 = ap length are.3 ∙ length-append are.0 are.1 in
    omega (arith, one.0, more)

-- one extension more at the end
pub area_more : (es : List Extension) (front : List ℕ) (first : List ℕ) (e : Extension)
    → AreExtensions front es → IsExtension first e → AreExtensions (front ++ first) (es ++ e ∷ [])
area_more [] front first e are is = (first, [], is, ap (λ (xs : List ℕ). xs ++ first) are ∙ sym (append-nil first), refl)
area_more (f ∷ es) front first e are is =
    (are.0, are.1 ++ first, are.2, ap (λ (xs : List ℕ). xs ++ first) are.3 ∙ append_assoc are.0 are.1 first, area_more es are.1 first e are.4 is)

-- extensions before what begins with none are cut off, and no more
pub split-area : (n : ℕ) (es : List Extension) (front rest : List ℕ) → length (front ++ rest) ≤ n
    → AreExtensions front es → first_of rest ≡ None → split n (front ++ rest) ≡ (es, rest)
split-area zero [] front rest le are none = ap (λ (xs : List ℕ). ([], xs ++ rest)) are
split-area zero (e ∷ es) front rest le are none =
    let one = extension_words are.0 e are.2 in
    let len : length front ≡ length are.0 + length are.1 = ap length are.3 ∙ length-append are.0 are.1 in
    absurd (omega (arith, one.0, length-append front rest))
split-area (suc n) [] front rest le are none = ap (λ (xs : List ℕ). split (suc n) (xs ++ rest)) are ∙ rw none refl
split-area (suc n) (e ∷ es) front rest le are none =
    let one = extension_words are.0 e are.2 in
    let len : length front ≡ length are.0 + length are.1 = ap length are.3 ∙ length-append are.0 are.1 in
    let joined : front ++ rest ≡ are.0 ++ (are.1 ++ rest) = ap (λ (xs : List ℕ). xs ++ rest) are.3 ∙ append_assoc are.0 are.1 rest in
    let head : first_of (are.0 ++ (are.1 ++ rest)) ≡ Some (e, are.1 ++ rest) = first_of-extension are.0 e (are.1 ++ rest) are.2 in
    let more = split-area n es are.1 rest (omega (arith, one.0, length-append front rest, length-append are.1 rest)) are.4 none in
    ap (split (suc n)) joined ∙ ap (λ (o : Option (Extension × List ℕ)). before_others o (λ r. split n r) (are.0 ++ (are.1 ++ rest))) head
    ∙ ap (λ (p : List Extension × List ℕ). (e ∷ p.0, p.1)) more

-- the extensions of an area are those that are computed
pub extensions_in-area : (area : List ℕ) (es : List Extension) → AreExtensions area es → extensions_in area ≡ es
unfolding extensions_in
extensions_in-area area es are =
    let same : split (length area) (area ++ []) ≡ (es, []) = split-area (length area) es area [] (omega (arith, length-append area [])) are refl in
    ap (λ (xs : List ℕ). (split (length area) xs).0) (sym (append-nil area)) ∙ ap (λ (p : List Extension × List ℕ). p.0) same

-- an area is one list of extensions
pub one_list : (area : List ℕ) (es fs : List Extension) → AreExtensions area es → AreExtensions area fs → es ≡ fs
one_list area es fs a b = sym (extensions_in-area area es a) ∙ extensions_in-area area fs b

-- the extensions that are left, where none is the first
pub none_left : (area : List ℕ) → IsArea area → first_of area ≡ None → extensions_in area ≡ []
none_left area ([], are) none = extensions_in-area area [] are
none_left area (e ∷ es, are) none =
    let head : first_of area ≡ Some (e, are.1) = ap first_of are.3 ∙ first_of-extension are.0 e are.1 are.2 in
    absurd cc

-- and where one is
pub some_left : (area : List ℕ) (e : Extension) (others : List ℕ) → IsArea area
    → first_of area ≡ Some (e, others) → (extensions_in area ≡ e ∷ extensions_in others) × IsArea others
some_left area e others ([], are) is = let none : first_of area ≡ None = ap first_of are in absurd cc
some_left area e others (f ∷ fs, are) is =
    let head : first_of area ≡ Some (f, are.1) = ap first_of are.3 ∙ first_of-extension are.0 f are.1 are.2 in
    let pair : ◌≡◌ {A = Option (Extension × List ℕ)} (Some (f, are.1)) (Some (e, others)) = sym head ∙ is in
    let same : ◌≡◌ {A = Extension × List ℕ} (f, are.1) (e, others) = same_Some _ _ pair in
    let e-is : f ≡ e = ap (λ (p : Extension × List ℕ). p.0) same in
    let others-are : are.1 ≡ others = ap (λ (p : Extension × List ℕ). p.1) same in
    let left : AreExtensions others fs = subst (λ (xs : List ℕ). AreExtensions xs fs) others-are are.4 in (
      extensions_in-area area (f ∷ fs) are ∙ ap (λ (x : Extension). x ∷ fs) e-is
          ∙ ap (λ (xs : List Extension). e ∷ xs) (sym (extensions_in-area others fs left)),
      (fs, left),
    )
