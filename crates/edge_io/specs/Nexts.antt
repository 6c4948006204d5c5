-- What a source of datagrams answers.
use Rattle.std.specs.Prelude.{◌≡◌, ℕ, ◌≤◌, List, [], ◌∷◌, length, take, Option, Some, None}
use Rattle.edge_io.specs.declared.next.Next.{Next}
use Rattle.edge_io.specs.declared.next.Next.TheVariants.{Got, End, Torn, Failed}

-- the answer, by what was left and torn before, and is left, torn and told after it
abbrev pub Answers : Next → List ℕ → List (List ℕ) → Option ℕ → List (List ℕ) → Option ℕ → Type 0 → Type 0
Answers (Got n) buffer left torn left' torn' told' = (left ≡ take n buffer ∷ left') × (torn' ≡ torn) × told'
Answers End buffer left torn left' torn' told' = (left ≡ []) × (torn ≡ None) × (left' ≡ []) × (torn' ≡ None) × told'
Answers (Torn p) buffer left torn left' torn' told' = (left ≡ []) × (torn ≡ Some p) × (left' ≡ []) × (torn' ≡ Some p) × told'
Answers Failed buffer left torn left' torn' told' = Unit {0}

-- a datagram is no longer than the buffer
abbrev pub IsWithin : Next → List ℕ → Type 0
IsWithin (Got n) buffer = n ≤ length buffer
IsWithin End buffer = Unit {0}
IsWithin (Torn p) buffer = Unit {0}
IsWithin Failed buffer = Unit {0}
