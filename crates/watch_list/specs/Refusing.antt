-- What each kind of watcher may refuse.
use Rattle.std.specs.Prelude.{◌≡◌, ℕ, Bool, ◌+◌, ◌-◌, ◌^◌, ◌==◌, List, length, min}
use Rattle.std.specs.List.{list_any}
use Rattle.edge_io.specs.declared.calls.Calls.{Calls}
use Rattle.watch_list.specs.declared.event.Event.{Event}

-- a count of events is full with these
abbrev pub IsFullWith : ℕ → List Event → Type 0
IsFullWith count before = count + length before ≡ 2 ^ 64 - 1

-- whether the call is stated to fail that comes after this many more
abbrev pub fails_after : Calls → ℕ → Bool
fails_after calls more = list_any (λ n. n == min (calls.made + (more + 1)) (2 ^ 64 - 1)) calls.fails.items
