-- What never comes where no count of faults rises.
use Rattle.std.proofs.Common.{◌≡◌, ◌-◌, ◌^◌, ◌≤◌, ℕ, Bool, true, false, List, [], ◌∷◌, ◌∙◌, Option, Some, None, inl, inr, refl, sym, ap, arith}
use Rattle.std.proofs.lemmas.Bool.{true≢false}
use Rattle.std.specs.Prelude.{◌⊎◌, ◌==◌, Ok, Err, MatchOption, MatchBool}
use Rattle.std.specs.List.{list_any}
use Rattle.edge_io.specs.Faults.{Rose}
use Rattle.edge_io.specs.declared.place.Place.{Place}
use Rattle.edge_io.specs.declared.datagrams.Datagrams as datagrams
use Rattle.edge_io.specs.declared.emit.Emit as emit
use Rattle.edge_io.specs.declared.files.Files as files
use Rattle.edge_io.specs.declared.shelf.Shelf as shelf
use Rattle.edge_io.specs.declared.text.Text as text
use Rattle.run_base.specs.Outcome.{Uses, IsTold, AreTold}
use Rattle.run_base.specs.Statuses.{number}
use Rattle.run_base.specs.declared.status.Status.{Status}
use Rattle.run_base.specs.declared.status.Status.TheVariants.{Done, NoCommand, NothingInstalled, Torn, OverBudget, Refused, Missing, TooMany}
use Rattle.run_base.specs.declared.fault.Fault.TheVariants.{Memory}

-- a count that stays 0 didn't rise
pub never_rose : Rose 0 0 → ⊥
never_rose rose = let at_end : 0 ≡ 2 ^ 64 - 1 = rose (omega arith) in omega (arith, at_end)

pub no_place : (place : Option Place) → MatchOption place (Unit {0}) (λ p. Rose 0 0 → ⊥)
no_place None = tt
no_place (Some place) = never_rose

pub no_part : (used : Bool) → MatchBool used (Rose 0 0 → ⊥) (Unit {0})
no_part true = never_rose
no_part false = tt

-- all is told where each part is
pub are_told : (place : Option Place) (used : Bool) → AreTold place used (Unit {0}) (Unit {0})
are_told None false = tt
are_told None true = tt
are_told (Some place) false = tt
are_told (Some place) true = (tt, tt)

-- ---- the numbers of the faults of a device

abbrev says_fault : ℕ → Bool
says_fault n = list_any (λ m. m == n) (4 ∷ 5 ∷ 6 ∷ 12 ∷ [])

ended : (status : Status) → says_fault (number (Ok status)) ≡ false
ended Done = refl
ended NoCommand = refl
ended NothingInstalled = refl
ended Torn = refl
ended OverBudget = refl
ended Refused = refl
ended Missing = refl
ended TooMany = refl

unfailed : (result : ℕ) (status : Status) → (result ≡ number (Ok status)) ⊎ (result ≡ number (Err Memory)) → says_fault result ≡ false
unfailed result status (inl is) = ap says_fault is ∙ ended status
unfailed result status (inr is) = ap says_fault is

-- what ends so doesn't end with the number of such a fault
pub isn't : (result n : ℕ) (status : Status) → (result ≡ number (Ok status)) ⊎ (result ≡ number (Err Memory)) → says_fault n ≡ true → result ≡ n → ⊥
isn't result n status ends says is = true≢false (sym says ∙ ap says_fault (sym is) ∙ unfailed result status ends)
