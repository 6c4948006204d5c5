-- The next step of the taking of a list of datagrams.
use Rattle.std.specs.Prelude.{◌≡◌, ◌≢◌, ◌≤◌, ℕ, List, [], ◌∷◌, length, take, drop, Option}
use Rattle.run_base.specs.Bounds.{limit, less, asked, ending_of, IsCounted}
use Rattle.run_base.specs.declared.bound.Bound.{Bound}
use Rattle.run_base.specs.declared.ending.Ending.TheVariants.{TooMany}
use Rattle.run_base.specs.declared.list.Step.{Step}
use Rattle.run_base.specs.declared.list.Step.TheVariants.{Got, Ended}

-- a datagram that is taken, and how the list goes on; or none may be taken any more, and the taking of what is left ends so
abbrev pub Steps : Step → List ℕ → Bound → List (List ℕ) → Option ℕ → List (List ℕ) → Option ℕ → Type 0 → Type 0
Steps (Got size) buffer bound left torn left' torn' told' = (left ≡ take size buffer ∷ left') × (torn' ≡ torn) × told'
Steps (Ended ending) buffer bound left torn left' torn' told' =
    (take (limit bound) left ≡ []) × (ending ≡ ending_of bound left torn) × (left' ≡ drop (asked bound) left)

-- whatever is told: a datagram is no longer than the buffer, and one fewer may be taken after it; where a count ends the list, none is too many
abbrev pub Fits : Step → List ℕ → Bound → Bound → Type 0
Fits (Got size) buffer bound bound' = (size ≤ length buffer) × (1 ≤ limit bound) × (bound' ≡ less bound 1)
Fits (Ended ending) buffer bound bound' = IsCounted bound → ending ≢ TooMany

-- a datagram of this size is taken where one may be
abbrev pub Takes : Step → ℕ → Bound → Bound → Type 0
Takes (Got n) size bound bound' = (n ≡ size) × (1 ≤ limit bound) × (bound' ≡ less bound 1)
Takes (Ended ending) size bound bound' = (ending ≡ TooMany) × (limit bound ≡ 0)
