-- The numbers of what was published, and of what a reader is shown.
use Rattle.std.proofs.Common.{◌≡◌, ℕ, ◌+◌, List, [], ◌∷◌, ◌++◌, ◌∙◌, sym, ap, arith, length, Option, append_assoc, length-append, suc, ◌-◌, ◌≤◌, ◌<◌, refl, subst, map, take, drop, get_or, Some, None, slice_get}
use Rattle.std.specs.Prelude.{option_map, All, Contains, IfSome}
use Rattle.std.proofs.lemmas.List.{append-nil, get_or-map, length-map, take_more, take-append-drop}
use Rattle.std.proofs.lemmas.List.Elements.{All-push, All-weaker}
use Rattle.carousel_cid.specs.Instances.{Shown}
use Rattle.snapshot_hub.specs.Histories.{last_of, one_above, height, IsRising}
use Rattle.run_receive.specs.Events.{published}
use Rattle.run_readers.specs.ReaderLines.{reader_line, reader_lines, MayNote, IsNotAbove, last_number, AreReaderLines}
use mathlib.Core.List.{IsPrefix}
use Rattle.snapshot_hub.proofs.Public.{height_grows, last_snoc}
use Rattle.run_readers.specs.Inner.Noted.{one_more}

-- ---- the lines of readers

lines_behind : (reader : ℕ) (saw : List (Option ℕ)) (one last : Option ℕ)
    → reader_lines reader (saw ++ one ∷ []) last ≡ reader_lines reader saw last ++ reader_line (reader + length saw) one last
lines_behind reader [] one last = append-nil (reader_line reader one last) ∙ ap (λ n. reader_line n one last) (let e : reader ≡ reader + 0 = omega arith in e)
lines_behind reader (s ∷ saw) one last =
    ap (λ (xs : List ℕ). reader_line reader s last ++ xs) (lines_behind (reader + 1) saw one last
    ∙ ap (λ n. reader_lines (reader + 1) saw last ++ reader_line n one last)
    (let e : (reader + 1) + length saw ≡ reader + length (s ∷ saw) = omega arith in e))
    ∙ sym (append_assoc (reader_line reader s last) (reader_lines (reader + 1) saw last) (reader_line (reader + length (s ∷ saw)) one last))

-- the line of the next reader
pub one_line_more : (published : List Shown) (n reader : ℕ) (one last : Option ℕ) (text text' : List ℕ) → AreReaderLines published n text → reader ≡ n + 1
    → MayNote published one → last ≡ option_map (λ i. i.number) (last_of published) → text' ≡ text ++ reader_line reader one last
    → AreReaderLines published (n + 1) text'
one_line_more published n reader one last text text' are next may is more =
    let l = option_map (λ (i : Shown). i.number) (last_of published) in
    let number : reader ≡ 1 + length are.saw = omega (arith, next, are.count) in
    record {
      saw = are.saw ++ one ∷ [];
      count = omega (arith, length-append are.saw (one ∷ []), are.count);
      known = All-push (MayNote published) are.saw one are.known may;
      is = more ∙ ap (λ (xs : List ℕ). xs ++ reader_line reader one last) are.is
          ∙ ap (λ m. reader_lines 1 are.saw l ++ reader_line reader one m) is
          ∙ ap (λ k. reader_lines 1 are.saw l ++ reader_line k one l) number
          ∙ sym (lines_behind 1 are.saw one l);
    }

-- a number is as high as its instance
as_high : (o : Option Shown) → one_more (option_map (λ i. i.number) o) ≡ one_above o
as_high None = refl
as_high (Some i) = refl

-- the last number is that of the last instance
pub last_mapped : (h : List Shown) → slice_get (map (λ i. i.number) h) (length (map (λ (i : Shown). i.number) h) - 1) ≡ option_map (λ i. i.number) (last_of h)
last_mapped [] = refl
last_mapped (i ∷ []) = refl
last_mapped (i ∷ (j ∷ h)) =
    let at : length (map (λ (s : Shown). s.number) (i ∷ (j ∷ h))) - 1 ≡ suc (length (map (λ (s : Shown). s.number) (j ∷ h)) - 1) = omega arith in
    rw at (last_mapped (j ∷ h))

-- what is shown where a history was learned is as high as that
pub as_high_as_told : (told learned shown : List Shown) → IsPrefix told learned → IsRising learned → height learned ≤ height shown → height told ≤ height shown
as_high_as_told told learned shown begins rising above = let first = height_grows told learned begins rising in omega (arith, first, above)

-- so its number isn't below the last one
pub not_below : (published shown : List Shown) (installed seen : Option ℕ) → installed ≡ option_map (λ i. i.number) (last_of published)
    → seen ≡ option_map (λ i. i.number) (last_of shown) → height published ≤ height shown → one_more installed ≤ one_more seen
not_below published shown installed seen is_installed is_seen above =
    let low = ap one_more is_installed ∙ as_high (last_of published) in
    let high = ap one_more is_seen ∙ as_high (last_of shown) in
    omega (arith, above, low, high)

-- a number of those that were published may be noted
pub may_note : (o : Option ℕ) (numbers : List ℕ) (published : List Shown) → numbers ≡ map (λ i. i.number) published
    → IfSome o (λ n. Contains numbers n) → MayNote published o
may_note None numbers published is holds = tt
may_note (Some n) numbers published is holds = subst (λ ns. Contains ns n) is holds

-- ---- no number is above the last

-- a number below the height of what was published isn't above its last
below_height : (number : ℕ) (last : Option Shown) → number + 1 ≤ one_above last → IsNotAbove (Some number) (option_map (λ i. i.number) last)
below_height number None below = absurd (omega (arith, below))
below_height number (Some i) below = omega (arith, below)

-- each instance is one of a beginning that ends with it
as_high_as_each : (published : List Shown) (i : ℕ) (d : Shown) → i < length published → IsRising published → (get_or published i d).number + 1 ≤ height published
as_high_as_each published i d less rising =
    let beginning = take i published ++ get_or published i d ∷ [] in
    let begins : IsPrefix beginning published =
    (drop (i + 1) published, ap (λ xs. xs ++ drop (i + 1) published) (sym (take_more published i d less)) ∙ take-append-drop (i + 1) published) in
    omega (arith, ap one_above (last_snoc (take i published) (get_or published i d)), height_grows beginning published begins rising)

not_above : (published : List Shown) (saw : Option ℕ) → IsRising published → MayNote published saw → IsNotAbove saw (last_number published)
not_above published None rising may = tt
not_above [] (Some number) rising may = absurd (omega (arith, may.1))
not_above (i ∷ is) (Some number) rising may =
    let all = i ∷ is in
    let less : may.0 < length all = omega (arith, may.1, length-map all (λ (s : Shown). s.number)) in
    let noted : (get_or all may.0 i).number ≡ number = sym (get_or-map (λ (s : Shown). s.number) all may.0 i number less) ∙ may.2 in
    below_height number (last_of all) (omega (arith, noted, as_high_as_each all may.0 i less rising))

pub none_above : (published : List Shown) (saw : List (Option ℕ)) → IsRising published → All (MayNote published) saw
    → All (λ one. IsNotAbove one (last_number published)) saw
none_above published saw rising may =
    All-weaker (MayNote published) (λ one. IsNotAbove one (last_number published)) (λ one known. not_above published one rising known) saw may
