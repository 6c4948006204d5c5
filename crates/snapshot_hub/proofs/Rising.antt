-- Histories in which numbers never fall.
use Rattle.std.proofs.Common.{◌≡◌, ℕ, suc, ◌+◌, ◌-◌, ◌<◌, ◌≤◌, Bool, true, false, List, []}
use Rattle.std.proofs.Common.{◌∷◌, ◌++◌, length, get_or, nat_lt, refl, ap, sym, ◌∙◌, arith, Option, Some, None}
use Rattle.std.proofs.lemmas.List.{get_or_append_left}
use Rattle.std.proofs.lemmas.List.Sorted.{IsNonDecreasingBy-push}
use Rattle.std.proofs.lemmas.Bool.Decides.{nat_tests}
use Rattle.std.specs.List.{last_or}
use mathlib.Core.List.{IsPrefix}
use Rattle.carousel_cid.specs.Instances.{Shown}
use Rattle.snapshot_hub.specs.Histories.{last_of, IsRising, MayFollow, height, one_above, longer, is_newer, newer}
use Rattle.snapshot_hub.proofs.Prefixes.{prefix_shorter, prefix_length}

last_or-snoc : (o : Option Shown) (h : List Shown) (i : Shown) → last_or o (h ++ i ∷ []) ≡ Some i
last_or-snoc o [] i = refl
last_or-snoc o (j ∷ h) i = last_or-snoc (Some j) h i

pub last_snoc : (h : List Shown) (i : Shown) → last_of (h ++ i ∷ []) ≡ Some i
last_snoc h i = last_or-snoc None h i

last_or-get : (o : Option Shown) (h : List Shown) (d : Shown) → 0 < length h → last_or o h ≡ Some (get_or h (length h - 1) d)
last_or-get o [] d some = absurd (omega arith)
last_or-get o (i ∷ []) d some = refl
last_or-get o (i ∷ (j ∷ h)) d some =
    let at : length (i ∷ (j ∷ h)) - 1 ≡ suc (length (j ∷ h) - 1) = omega arith in
    rw at (last_or-get (Some i) (j ∷ h) d (omega arith))

-- the height of a history that isn't empty is one above its last number
height_last : (h : List Shown) (d : Shown) → 0 < length h → height h ≡ (get_or h (length h - 1) d).number + 1
height_last h d some = ap one_above (last_or-get None h d some)

pub rising_empty : IsRising []
rising_empty i j d le less = absurd (omega arith)

pub rising_snoc : (h : List Shown) (i : Shown) → IsRising h → MayFollow h i → IsRising (h ++ i ∷ [])
rising_snoc h i rising may = IsNonDecreasingBy-push (λ (i : Shown). i.number) h i rising (λ d some. omega (arith, height_last h d some, may))

pub rising_prefix : (h all : List Shown) → IsPrefix h all → IsRising all → IsRising h
rising_prefix h all p rising i j d le less =
    let longer : length h ≤ length all = prefix_length h all p in
    let at : (k : ℕ) → k < length h → (get_or h k d).number ≡ (get_or all k d).number =
    λ k in'. ap (λ (e : Shown). e.number) (sym (get_or_append_left h p.0 d k in') ∙ ap (λ w. get_or w k d) p.1) in
    let above : (get_or all i d).number ≤ (get_or all j d).number = rising i j d le (omega (arith, longer)) in
    omega (arith, at i (omega arith), at j less, above)

-- a history stands as high as each of its beginnings
pub height_grows : (h all : List Shown) → IsPrefix h all → IsRising all → height h ≤ height all
height_grows [] all p rising = omega arith
height_grows (i ∷ h) all p rising =
    let n = length (i ∷ h) - 1 in
    let more : length (i ∷ h) ≤ length all = prefix_length (i ∷ h) all p in
    let at : get_or (i ∷ h) n i ≡ get_or all n i = sym (get_or_append_left (i ∷ h) p.0 i n (omega arith)) ∙ ap (λ w. get_or w n i) p.1 in
    let above : (get_or all n i).number ≤ (get_or all (length all - 1) i).number = rising n (length all - 1) i (omega (arith, more)) (omega (arith, more)) in
    omega (arith, height_last (i ∷ h) i (omega arith), height_last all i (omega (arith, more)), ap (λ (e : Shown). e.number) at, above)

newer_true : (h t : List Shown) → length h < length t → height h ≤ height t → is_newer t h ≡ true
newer_true h t less le = grind (arith, nat_tests)

newer_false : (h t : List Shown) → length t ≤ length h → height t ≤ height h → is_newer t h ≡ false
newer_false h t less le = grind (arith, nat_tests)

newer_by : (h t all : List Shown) → IsRising all → IsPrefix h all → IsPrefix t all
    → (b : Bool) → nat_lt (length h) (length t) ≡ b → newer h t ≡ longer h t
newer_by h t all rising p q true is =
    let less : length h < length t = grind (arith, nat_tests) in
    let begins : IsPrefix h t = prefix_shorter h t all p q (omega arith) in
    rw (newer_true h t less (height_grows h t begins (rising_prefix t all q rising)), is) refl
newer_by h t all rising p q false is =
    let less : length t ≤ length h = grind (arith, nat_tests) in
    let begins : IsPrefix t h = prefix_shorter t h all q p less in
    rw (newer_false h t less (height_grows t h begins (rising_prefix h all p rising)), is) refl

-- of two beginnings of one history the newer is the longer
pub newer_longer : (all h t : List Shown) → IsRising all → IsPrefix h all → IsPrefix t all → newer h t ≡ longer h t
newer_longer all h t rising p q = newer_by h t all rising p q (nat_lt (length h) (length t)) refl
