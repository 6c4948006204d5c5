-- How many datagrams of a list are taken, and how their taking ends.
use Rattle.std.specs.Prelude.{◌≡◌, ℕ, ◌≤◌, ◌+◌, ◌-◌, nat_le, nat_lt, if◌then◌else◌, List, length, take, Option, Some, None}
use Rattle.run_base.specs.declared.bound.Bound.{Bound}
use Rattle.run_base.specs.declared.bound.Bound.TheVariants.{Most, Count}
use Rattle.run_base.specs.declared.ending.Ending.{Ending}
use Rattle.run_base.specs.declared.ending.Ending.TheVariants.{End, Torn, TooMany}
use Rattle.run_base.specs.declared.settings.Settings.{Settings}

abbrev pub ending_at : Option ℕ → Ending
ending_at None = End
ending_at (Some at) = Torn at

-- how many datagrams are taken, where there are so many
abbrev pub limit : Bound → ℕ
limit (Most most) = most
limit (Count count) = count

-- what is left of a bound once this many were taken
abbrev pub less : Bound → ℕ → Bound
less (Most most) taken = Most (most - taken)
less (Count count) taken = Count (count - taken)

-- one less is left, where one may still be taken
abbrev pub LessOne : Option Bound → Bound → Type 0
LessOne None bound = limit bound ≡ 0
LessOne (Some left) bound = (1 ≤ limit bound) × (left ≡ less bound 1)

-- the list ends with the last of so many
abbrev pub IsCounted : Bound → Type 0
IsCounted (Most most) = ⊥
IsCounted (Count count) = Unit {0}

-- how many are asked for: behind the most that are taken one more
abbrev pub asked : Bound → ℕ
asked (Most most) = most + 1
asked (Count count) = count

-- How the taking of the datagrams that are left ends, where their log is torn there. One more than the most is too
-- many; with the last that is counted the list is read to its end.
abbrev pub ending_of : Bound → List (List ℕ) → Option ℕ → Ending
ending_of (Most most) left torn = if nat_lt most (length left) then TooMany else ending_at torn
ending_of (Count count) left torn = if nat_le count (length left) then End else ending_at torn

-- the datagrams that are taken
abbrev pub datagrams_taken : Settings → List (List ℕ) → List (List ℕ)
datagrams_taken c left = take (limit c.bound) left
