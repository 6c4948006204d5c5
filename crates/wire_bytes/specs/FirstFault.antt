-- The first fault that holds, of faults in their order. A fault that doesn't hold is None in its place.
use Rattle.std.specs.Prelude.{Bool, if◌then◌else◌, List, [], ◌∷◌, Option, Some, None, Result, Ok, Err}

-- the fault, where its cause holds
abbrev pub fault_when : {F : Type 0} → Bool → F → Option F
fault_when holds fault = if holds then Some fault else None

-- the first one that holds
abbrev pub first_fault : {F : Type 0} → List (Option F) → Option F
first_fault [] = None
first_fault (None ∷ faults) = first_fault faults
first_fault (Some fault ∷ faults) = Some fault

-- the value, unless there is a fault
abbrev pub unless_fault : {F A : Type 0} → Option F → A → Result A F
unless_fault None value = Ok value
unless_fault (Some fault) value = Err fault
