-- The exchange that adds an instance keeps the rule of the book.
use Rattle.std.proofs.Common.{◌≡◌, ℕ, ◌+◌, ◌<◌, ◌==◌, Bool, true, false, List, [], ◌∷◌, ◌++◌, length}
use Rattle.std.proofs.Common.{refl, ap, sym, subst, arith, inl, length-append, None}
use Rattle.std.proofs.lemmas.List.{append-nil}
use Rattle.std.proofs.lemmas.Bool.Decides.{nat_tests}
use mathlib.Core.List.{IsPrefix}
use prog.Atomic.{either}
use Rattle.logbook.specs.Pages.{Cell, cell, keeps, no_nib, step, Moves, Goes}
use Rattle.carousel_cid.specs.Instances.{Shown}
use Rattle.snapshot_hub.specs.Histories.{IsRising, MayFollow}
use Rattle.snapshot_hub.specs.Inner.Kept.{IsKept, Adds}
use Rattle.snapshot_hub.proofs.Prefixes.{prefix_whole}
use Rattle.snapshot_hub.proofs.Rising.{rising_snoc}

abbrev pub shown : List Shown → List Shown
shown log = []

abbrev pub moved : List Shown → List Shown → ℕ → Type 0
moved xs ys n = Unit {0}

pub adds_goes : (log v : List Shown) (e : Shown) (old : ℕ) → length v ≡ old → MayFollow v e → IsRising log → IsPrefix v log
    → (b : Bool) → (length log == old) ≡ b
    → Goes IsKept shown moved 0 (v, (no_nib, None)) (λ n. either (n == old) (old + 1) n) (Adds (step 0 old (old + 1) e) (v, (no_nib, None)))
    ((length log, true) ∷ (0, true) ∷ []) log
adds_goes log v e old len may rising pre true is =
    let here : length log ≡ old = grind (arith, nat_tests) in
    let same : v ≡ log = prefix_whole v log pre (omega arith) in
    let rising' : IsRising (log ++ e ∷ []) = rising_snoc log e rising (subst (λ (l : List Shown). MayFollow l e) same may) in
    let n : either (length log == old) (old + 1) (length log) ≡ length (log ++ e ∷ []) = rw is (omega (arith, length-append log (e ∷ []))) in (
      keeps,
      e ∷ [],
      None,
      tt,
      record { words = ap (λ (k : ℕ). (k, true) ∷ (0, true) ∷ []) n; rising = rising' },
      inl (refl, refl),
      rw is (ap (λ w. w ++ e ∷ []) (sym same), rising'),
    )
adds_goes log v e old len may rising pre false is =
    let all : log ++ [] ≡ log = append-nil log in
    let rising' : IsRising (log ++ []) = subst IsRising (sym all) rising in
    let n : either (length log == old) (old + 1) (length log) ≡ length (log ++ []) = rw is (ap length (sym all)) in (
      keeps,
      [],
      None,
      tt,
      record { words = ap (λ (k : ℕ). (k, true) ∷ (0, true) ∷ []) n; rising = rising' },
      inl (refl, refl),
      rw is (ap length all, rising'),
    )

-- whatever the book is, the exchange adds the instance to all that was seen, or finds that the history is longer
pub adds_moves : (v : List Shown) (e : Shown) (old : ℕ) → length v ≡ old → MayFollow v e
    → Moves IsKept shown moved 0 (v, (no_nib, None)) (λ n. either (n == old) (old + 1) n) (Adds (step 0 old (old + 1) e) (v, (no_nib, None)))
adds_moves v e old len may cs log kept pre away =
    let G : List Cell → Type 0 = λ c.
    Goes IsKept shown moved 0 (v, (no_nib, None)) (λ n. either (n == old) (old + 1) n) (Adds (step 0 old (old + 1) e) (v, (no_nib, None))) c log in
    let P : List Cell → Type 0 = λ c. (0 < length c) × ((cell c 0).1 ≡ true) × G c in
    subst P (sym kept.words) (omega arith, refl, adds_goes log v e old len may kept.rising pre (length log == old) refl)
