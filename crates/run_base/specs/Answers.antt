-- How a call inside a run ends, by cases on its answer: a run that came to its end, or the fault that stopped it.
use Rattle.std.specs.Prelude.{◌≡◌, ℕ, Bool, true, false, List, ◌++◌, Result, Ok, Err, MatchBool}
use Rattle.edge_io.specs.Shelved.{Shelved}
use Rattle.edge_io.specs.ShelfCalls.{Call, after}
use Rattle.run_base.specs.Outcome.{Writes, Once, Pieces, Streams}
use Rattle.run_base.specs.Parts.{AddsPart, AcceptsPart, AcceptsFewer}
use Rattle.run_base.specs.declared.fault.Fault.{Fault}
use Rattle.run_base.specs.declared.fault.Fault.TheVariants.{Datagrams, Text, Emit, Shelf, Files, Memory}

-- each fault comes only where this holds of its device
abbrev pub Blames : {A : Type 0} → Result A Fault → Type 0 → Type 0 → Type 0 → Type 0 → Type 0 → Type 0
Blames (Ok done) datagrams text emit shelf files = Unit {0}
Blames (Err Datagrams) datagrams text emit shelf files = datagrams
Blames (Err Text) datagrams text emit shelf files = text
Blames (Err Emit) datagrams text emit shelf files = emit
Blames (Err Shelf) datagrams text emit shelf files = shelf
Blames (Err Files) datagrams text emit shelf files = files
Blames (Err Memory) datagrams text emit shelf files = Unit {0}

-- where the datagrams were all taken, this holds
abbrev pub AfterTaking : {A : Type 0} → Result A Fault → Type 0 → Type 0
AfterTaking (Ok done) holds = holds
AfterTaking (Err Datagrams) holds = Unit {0}
AfterTaking (Err Text) holds = holds
AfterTaking (Err Emit) holds = holds
AfterTaking (Err Shelf) holds = holds
AfterTaking (Err Files) holds = Unit {0}
AfterTaking (Err Memory) holds = Unit {0}

-- what holds once the datagrams were all taken, of a task that writes so: while it streams, a fault of its text stops the taking
abbrev pub AfterAll : {A : Type 0} → Writes → Result A Fault → Type 0 → Type 0
AfterAll Once answer holds = AfterTaking answer holds
AfterAll Pieces answer holds = AfterTaking answer holds
AfterAll Streams (Ok done) holds = holds
AfterAll Streams (Err fault) holds = Unit {0}

-- ---- what the text gets

-- a part of the text may have been written before this fault came
abbrev pub may_write : Writes → Fault → Bool
may_write Once fault = false
may_write Pieces Datagrams = false
may_write Pieces Text = true
may_write Pieces Emit = true
may_write Pieces Shelf = false
may_write Pieces Files = false
may_write Pieces Memory = true
may_write Streams fault = true

-- the text gets this, or a part of it, or nothing
abbrev pub LeavesText : {A : Type 0} → Writes → Result A Fault → List ℕ → List ℕ → List ℕ → Type 0
LeavesText writes (Ok done) text old new = new ≡ old ++ text
LeavesText writes (Err fault) text old new = MatchBool (may_write writes fault) (AddsPart text old new) (new ≡ old)

-- whatever is told of the rest, the text gets nothing where none may be written
abbrev pub LeavesNothing : {A : Type 0} → Writes → Result A Fault → List ℕ → List ℕ → Type 0
LeavesNothing writes (Ok done) old new = Unit {0}
LeavesNothing writes (Err fault) old new = MatchBool (may_write writes fault) (Unit {0}) (new ≡ old)

-- ---- what the sink gets

-- A part of the datagrams may have been sent before this fault came. It goes by the fault first, so that it computes at a fault
-- for any way of writing.
abbrev pub may_send : Fault → Writes → Bool
may_send Datagrams Once = false
may_send Datagrams Pieces = false
may_send Datagrams Streams = true
may_send Text writes = true
may_send Emit writes = true
may_send Shelf writes = true
may_send Files writes = false
may_send Memory writes = true

-- the sink gets these datagrams, or the first of them, or none
abbrev pub LeavesSink : {A : Type 0} → Writes → Result A Fault → List (List ℕ) → List (List ℕ) → List (List ℕ) → Type 0
LeavesSink writes (Ok done) sent old new = new ≡ old ++ sent
LeavesSink writes (Err fault) sent old new = MatchBool (may_send fault writes) (AddsPart sent old new) (new ≡ old)

-- ---- what the shelf gets

-- the calls, after the datagrams were taken and before the text is written
abbrev pub LeavesShelf : {A : Type 0} → Result A Fault → List Call → Shelved → Shelved → Type 0
LeavesShelf (Ok done) calls old new = new ≡ after calls old
LeavesShelf (Err Datagrams) calls old new = new ≡ old
LeavesShelf (Err Text) calls old new = new ≡ after calls old
LeavesShelf (Err Emit) calls old new = new ≡ after calls old
LeavesShelf (Err Shelf) calls old new = AcceptsFewer calls old new
LeavesShelf (Err Files) calls old new = new ≡ old
LeavesShelf (Err Memory) calls old new = AcceptsPart calls old new
