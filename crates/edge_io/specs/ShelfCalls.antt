-- The calls of a shelf, and what they make of what it holds.
use Rattle.std.specs.Prelude.{ℕ, List, [], ◌∷◌}
use Rattle.edge_io.specs.Shelved.{Shelved, begun, with_file, finished}

pub data Call : Type 0 where
  Begin : (number : ℕ) → Call
  Put : (toi : ℕ) (body : List ℕ) → Call
  Finish : (manifest : List ℕ) → Call

-- what the shelf holds after the call, where it answers Ok
abbrev pub after_call : Call → Shelved → Shelved
after_call (Begin number) s = begun s number
after_call (Put toi body) s = with_file s toi body
after_call (Finish manifest) s = finished s manifest

-- what the shelf holds after the calls, one after the other
abbrev pub after : List Call → Shelved → Shelved
after [] s = s
after (c ∷ cs) s = after cs (after_call c s)
