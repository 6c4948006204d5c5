-- What refuses a plan.
use Rattle.std.specs.Prelude.{ℕ, ◌+◌, nat_le, nat_lt, Bool, false, if◌then◌else◌, List, [], ◌∷◌, Option, Some, None, length, option_map}
use Rattle.wire_bytes.specs.FirstFault.{fault_when}
use Rattle.sender_plan.specs.declared.params.Params.{Params}
use Rattle.sender_plan.specs.declared.fault.PlanFault.{PlanFault}
use Rattle.sender_plan.specs.declared.fault.PlanFault.TheVariants.{NumberNotRising, TooManyFiles, TooLarge}
use Rattle.sender_plan.specs.declared.fault.PlanFault.TheVariants as faults
use Rattle.sender_plan.specs.CatalogInstance.{CatalogInstance}

-- how many files an instance may have, and how many bytes all bodies
abbrev pub most_files : ℕ
most_files = 4096

abbrev pub most_bytes : ℕ
most_bytes = 268435456

-- a number that isn't above the one before, where there is one
abbrev pub is_within : ℕ → Option ℕ → Bool
is_within number None = false
is_within number (Some before) = nat_le number before

-- the place of the first instance whose number isn't above the one before; the first of these stands at this place
abbrev pub not_rising : ℕ → Option ℕ → List CatalogInstance → Option ℕ
not_rising at before [] = None
not_rising at before (instance ∷ instances) =
    if is_within instance.number before then Some at else not_rising (at + 1) (Some instance.number) instances

-- the place of the first instance with too many files; the first of these stands at this place
abbrev pub too_many : ℕ → List CatalogInstance → Option ℕ
too_many at [] = None
too_many at (instance ∷ instances) = if nat_lt most_files (length instance.items) then Some at else too_many (at + 1) instances

-- what refuses a catalog under these parameters, in the order in which it is looked for; places are counted from 1
abbrev pub check_faults : List CatalogInstance → Params → List (Option PlanFault)
check_faults instances params =
    option_map NumberNotRising (not_rising 1 None instances)
    ∷ option_map TooManyFiles (too_many 1 instances)
    ∷ fault_when (nat_lt params.max_n params.max_block) faults.Params
    ∷ []
