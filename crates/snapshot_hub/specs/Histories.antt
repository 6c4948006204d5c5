-- Histories: the instances that were published, in order, or the first of them.
use Rattle.std.specs.Prelude.{ℕ, ◌+◌, ◌≤◌, ◌==◌, ◌&&◌, ◌||◌, nat_lt, Bool, List, length, Option, Some, None, if◌then◌else◌}
use Rattle.std.specs.List.{last_or}
use Rattle.std.specs.List.Sorted.{IsNonDecreasingBy}
use Rattle.carousel_cid.specs.Instances.{Shown}

-- the last instance, where there is one
abbrev pub last_of : List Shown → Option Shown
last_of h = last_or None h

-- numbers never fall: none is above that of a later instance
abbrev pub IsRising : List Shown → Type 0
IsRising h = IsNonDecreasingBy (λ i. i.number) h

abbrev pub one_above : Option Shown → ℕ
one_above None = 0
one_above (Some i) = i.number + 1

-- how high a history stands: one above its last number, and 0, which is lower than any other, where it is empty
abbrev pub height : List Shown → ℕ
height h = one_above (last_of h)

-- the instance may come next: its number is not below the last one's
abbrev pub MayFollow : List Shown → Shown → Type 0
MayFollow h i = height h ≤ i.number + 1

-- the longer of two histories, the first where they are alike
abbrev pub longer : List Shown → List Shown → List Shown
longer h t = if nat_lt (length h) (length t) then t else h

-- t has the greater last number, or the same and is longer
abbrev pub is_newer : List Shown → List Shown → Bool
is_newer t h = nat_lt (height h) (height t) || ((height h == height t) && nat_lt (length h) (length t))

-- t where it is newer than h
abbrev pub newer : List Shown → List Shown → List Shown
newer h t = if is_newer t h then t else h
