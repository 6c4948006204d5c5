-- The choice among candidates.
use Rattle.std.proofs.Common.{◌≡◌, true, false, List, [], ◌∷◌, refl, subst, arith, Option, Some, None}
use Rattle.std.specs.Prelude.{if◌then◌else◌}
use Rattle.std.specs.List.{fold}
use Rattle.std.proofs.lemmas.Bool.Decides.{nat_tests}
use Rattle.receiver_core.specs.declared.candidate.Candidate.{Candidate}
use Rattle.receiver_core.specs.Inner.Lists.{Each}
use Rattle.receiver_core.specs.Inner.Choice.{is_above, beats, pick, chosen}

-- what was picked has this
abbrev IsPicked : (Candidate → Type 0) → Option Candidate → Type 0
IsPicked P None = Unit {0}
IsPicked P (Some c) = P c

picked_one : (P : Candidate → Type 0) (best : Option Candidate) (c : Candidate) → IsPicked P best → P c → IsPicked P (pick best c)
picked_one P best c old has = elim (beats best c) as (λ b. IsPicked P (if b then Some c else best)) [
  | true ↦ has
  | false ↦ old
]

picked_all : (P : Candidate → Type 0) (cs : List Candidate) (best : Option Candidate) → Each P cs → IsPicked P best → IsPicked P (fold pick best cs)
picked_all P [] best all old = old
picked_all P (c ∷ cs) best all old = picked_all P cs (pick best c) all.1 (picked_one P best c old all.0)

-- what is chosen has what each has
pub chosen_has : (P : Candidate → Type 0) (cs : List Candidate) (c : Candidate) → Each P cs → chosen cs ≡ Some c → P c
chosen_has P cs c all is = subst (IsPicked P) is (picked_all P cs None all tt)

-- ---- none of the others is better

abbrev IsTopped : Option Candidate → Candidate → Type 0
IsTopped best d = beats best d ≡ false

above_neither : (b c d : Candidate) → is_above d.number d.toi b.number b.toi ≡ false
    → is_above c.number c.toi b.number b.toi ≡ true → is_above d.number d.toi c.number c.toi ≡ false
above_neither b c d first second = grind (arith, nat_tests)

not_above_itself : (c : Candidate) → is_above c.number c.toi c.number c.toi ≡ false
not_above_itself c = grind (arith, nat_tests)

beaten : (best : Option Candidate) (c d : Candidate) → beats best d ≡ false → beats best c ≡ true → is_above d.number d.toi c.number c.toi ≡ false
beaten None c d e f = absurd (let both : true ≡ false = e in cc)
beaten (Some b) c d e f = above_neither b c d e f

topped_pick : (best : Option Candidate) (c d : Candidate) → IsTopped best d → IsTopped (pick best c) d
topped_pick best c d old = elim (beats best c) as (λ b. beats best c ≡ b → beats (if b then Some c else best) d ≡ false) [
  | true ↦ λ e. beaten best c d old e
  | false ↦ λ e. old
] refl

topped_self : (best : Option Candidate) (c : Candidate) → IsTopped (pick best c) c
topped_self best c = elim (beats best c) as (λ b. beats best c ≡ b → beats (if b then Some c else best) c ≡ false) [
  | true ↦ λ e. not_above_itself c
  | false ↦ λ e. e
] refl

topped_after : (cs : List Candidate) (best : Option Candidate) (d : Candidate) → IsTopped best d → IsTopped (fold pick best cs) d
topped_after [] best d old = old
topped_after (c ∷ cs) best d old = topped_after cs (pick best c) d (topped_pick best c d old)

topped_each : (cs : List Candidate) (best : Option Candidate) → Each (IsTopped (fold pick best cs)) cs
topped_each [] best = tt
topped_each (c ∷ cs) best = (topped_after cs (pick best c) c (topped_self best c), topped_each cs (pick best c))

-- none beats what is chosen
pub topped_all : (cs : List Candidate) → Each (λ d. beats (chosen cs) d ≡ false) cs
topped_all cs = topped_each cs None
