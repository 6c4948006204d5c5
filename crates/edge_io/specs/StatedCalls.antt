-- The calls that are stated to fail.
use Rattle.std.specs.Prelude.{◌≡◌, ℕ, Bool, ◌==◌}
use Rattle.std.specs.List.{list_any}
use Rattle.edge_io.specs.Faults.{one_more}
use Rattle.edge_io.specs.declared.calls.Calls.{Calls}

-- the number of the next call, counted from 1 over all methods of the object; the count stands still at its end
abbrev pub next_call : Calls → ℕ
next_call calls = one_more calls.made

-- whether the next call is stated to fail
abbrev pub fails_next : Calls → Bool
fails_next calls = list_any (λ n. n == next_call calls) calls.fails.items

-- one call more was made, and the same calls are stated
pub record IsNextCall (old new : Calls) : Type 0 where
  pub list : new.fails.items ≡ old.fails.items
  pub made : new.made ≡ next_call old
