-- The tables of logarithms and powers, each entry tested by computing.
use Rattle.std.proofs.Common.{◌≡◌, ◌≢◌, ℕ, ◌<◌, true, ◌&&◌, ◌||◌, eqb, ltb, get_or, refl, ⊎_elim, eqb-true, ltb-true}
use Rattle.std.proofs.lemmas.Bool.{and_parts, or_cases}
use Rattle.gf256.specs.Field.{double}
use Rattle.gf256.specs.Polynomial.{power}
use Rattle.gf256.specs.declared.logarithm.TheConstants.{LOGARITHMS, POWERS}
use Rattle.gf256.proofs.Finite.{each_below, passes_at}

-- alpha to the logarithm of each element but zero is the element, and the logarithm is below 255
logarithms_tested : each_below 256 (λ a. eqb a 0 || (eqb (power (get_or LOGARITHMS a 0)) a && ltb (get_or LOGARITHMS a 0) 255)) ≡ true
unfolding each_below double power
logarithms_tested = refl

-- each entry is the power at its place
powers_tested : each_below 510 (λ j. eqb (get_or POWERS j 0) (power j)) ≡ true
unfolding each_below double power
powers_tested = refl

-- what the table has as the logarithm of an element
pub logarithm_is : (a : ℕ) → a < 256 → a ≢ 0 → (power (get_or LOGARITHMS a 0) ≡ a) × (get_or LOGARITHMS a 0 < 255)
logarithm_is a la some =
    ⊎_elim (λ null. absurd (some (eqb-true a 0 null)))
    (λ both.
    let parts : (eqb (power (get_or LOGARITHMS a 0)) a ≡ true) × (ltb (get_or LOGARITHMS a 0) 255 ≡ true) = and_parts _ _ both in
    (eqb-true _ _ parts.0, ltb-true _ _ parts.1))
    (or_cases _ _ (passes_at 256 (λ a. eqb a 0 || (eqb (power (get_or LOGARITHMS a 0)) a && ltb (get_or LOGARITHMS a 0) 255)) logarithms_tested a la))

-- what the table has as a power
pub power_is : (j : ℕ) → j < 510 → get_or POWERS j 0 ≡ power j
power_is j less = eqb-true _ _ (passes_at 510 (λ j. eqb (get_or POWERS j 0) (power j)) powers_tested j less)
