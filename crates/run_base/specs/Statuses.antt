-- The table of statuses: what the program answers for each end of a run, and what its number says.
use Rattle.std.specs.Prelude.{◌≡◌, ◌==◌, ◌⊎◌, ℕ, Bool, true, false, List, Result, Ok, Err}
use Rattle.std.specs.List.{list_any}
use Rattle.run_base.specs.declared.status.Status.{Status}
use Rattle.run_base.specs.declared.status.Status.TheVariants.{Done, NoCommand, NothingInstalled, Torn, OverBudget, Refused, Missing, TooMany}
use Rattle.run_base.specs.declared.fault.Fault.{Fault}
use Rattle.run_base.specs.declared.fault.Fault.TheVariants.{Datagrams, Text, Emit, Shelf, Files, Memory}

-- a run ended so, or was stopped by this fault
abbrev pub Answer : Type 0
Answer = Result Status Fault

abbrev pub number : Answer → ℕ
number (Ok Done) = 0
number (Ok NoCommand) = 1
number (Ok NothingInstalled) = 2
number (Ok Torn) = 3
number (Err Datagrams) = 4
number (Err Text) = 5
number (Err Emit) = 5
number (Err Shelf) = 6
number (Ok OverBudget) = 7
number (Ok Refused) = 8
number (Err Memory) = 9
number (Ok Missing) = 10
number (Ok TooMany) = 11
number (Err Files) = 12

-- it is one of these
abbrev pub is_one_of : List Status → Status → Bool
is_one_of statuses s = list_any (λ t. number (Ok t) == number (Ok s)) statuses

-- the list was read to its end
abbrev pub is_at_end : Status → Bool
is_at_end Done = true
is_at_end NothingInstalled = true
is_at_end OverBudget = true
is_at_end status = false

-- the same of a number: an instance is installed, or none is, or a packet was over the budget
abbrev pub ReadsToEnd : ℕ → Type 0
ReadsToEnd result = (result ≡ number (Ok Done)) ⊎ (result ≡ number (Ok NothingInstalled)) ⊎ (result ≡ number (Ok OverBudget))

-- the shelf isn't touched then, whatever is told
abbrev pub leaves_shelf : Answer → Bool
leaves_shelf (Ok NoCommand) = true
leaves_shelf (Ok NothingInstalled) = true
leaves_shelf (Ok Torn) = true
leaves_shelf (Ok TooMany) = true
leaves_shelf (Err Datagrams) = true
leaves_shelf answer = false

-- the sink isn't touched then, whatever is told
abbrev pub leaves_sink : Answer → Bool
leaves_sink (Ok NoCommand) = true
leaves_sink (Ok Refused) = true
leaves_sink (Ok Missing) = true
leaves_sink (Err Files) = true
leaves_sink answer = false
