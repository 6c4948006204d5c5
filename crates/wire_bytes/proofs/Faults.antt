-- The steps through a list of faults to the first that holds.
use Rattle.std.proofs.Common.{◌≡◌, Bool, true, false, List, [], ◌∷◌, ◌++◌, Option, Some, None, refl, ap}
use Rattle.std.specs.List.{AllByRecursion}
use Rattle.wire_bytes.specs.FirstFault.{fault_when, first_fault}

-- a fault whose cause holds is the answer, whatever follows
pub held_first : {F : Type 0} (cause : Bool) (fault : F) (faults : List (Option F)) → cause ≡ true → first_fault (fault_when cause fault ∷ faults) ≡ Some fault
held_first cause fault faults holds = rw holds refl

-- a fault that doesn't hold is passed over
pub past : {F : Type 0} (o : Option F) (faults : List (Option F)) → o ≡ None → first_fault (o ∷ faults) ≡ first_fault faults
past o faults none = rw none refl

pub past_cause : {F : Type 0} (cause : Bool) (fault : F) (faults : List (Option F)) → cause ≡ false → first_fault (fault_when cause fault ∷ faults) ≡ first_fault faults
past_cause cause fault faults fails = rw fails refl

-- where none holds, the first doesn't, nor do the others
pub none_hold : {F : Type 0} (o : Option F) (faults : List (Option F)) → first_fault (o ∷ faults) ≡ None → (o ≡ None) × (first_fault faults ≡ None)
none_hold None faults e = (refl, e)
none_hold (Some fault) faults e = cc

-- a cause whose fault isn't told doesn't hold
pub cause_fails : {F : Type 0} (cause : Bool) (fault : F) → fault_when cause fault ≡ None → cause ≡ false
cause_fails true fault e = cc
cause_fails false fault e = refl

pub fault_is_none : {F : Type 0} (cause : Bool) (fault : F) → cause ≡ false → fault_when cause fault ≡ None
fault_is_none cause fault fails = rw fails refl

-- the first fault that holds stands in the list, and none before it holds
pub first_is : {F : Type 0} (faults : List (Option F)) (fault : F) → first_fault faults ≡ Some fault
    → (before : List (Option F)) × (after : List (Option F)) × (faults ≡ before ++ Some fault ∷ after) × AllByRecursion (λ o. o ≡ None) before
first_is [] fault e = cc
first_is (Some other ∷ faults) fault e = ([], faults, ap (λ o. o ∷ faults) e, tt)
first_is (None ∷ faults) fault e =
    let rest = first_is faults fault e in
    (None ∷ rest.0, rest.1, ap (λ os. None ∷ os) rest.2, (refl, rest.3))
