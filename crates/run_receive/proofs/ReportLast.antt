-- The end of a run: the report is written last.
use Rattle.std.proofs.Common.{◌≡◌, true, List, ◌∙◌, sym, ap}
use Rattle.std.specs.Prelude.{Ok, Err, IfOk}
use Rattle.edge_io.specs.Shelved.{Shelved}
use Rattle.edge_io.specs.ShelfCalls.{Call, after}
use Rattle.run_base.specs.declared.fault.Fault.TheVariants.{Datagrams, Text, Emit, Shelf, Files, Memory}
use Rattle.run_base.specs.declared.status.Status.{Status}
use Rattle.run_base.specs.Statuses.{Answer, leaves_shelf}
use Rattle.run_base.specs.Answers.{Blames, LeavesShelf}
use Rattle.run_receive.proofs.Installing.{part_all}

-- ---- the report is written last

-- the shelf has all calls, whatever text answers
pub shelf_then_text : (answer : Answer) (t : Type 0) (calls : List Call) (old new : Shelved)
    → Blames answer ⊥ t ⊥ ⊥ ⊥ → new ≡ after calls old → LeavesShelf answer calls old new
shelf_then_text (Ok s) t calls old new blames is = is
shelf_then_text (Err Datagrams) t calls old new blames is = absurd blames
shelf_then_text (Err Text) t calls old new blames is = is
shelf_then_text (Err Emit) t calls old new blames is = is
shelf_then_text (Err Shelf) t calls old new blames is = absurd blames
shelf_then_text (Err Files) t calls old new blames is = absurd blames
shelf_then_text (Err Memory) t calls old new blames is = part_all calls old new is

-- a status at which the shelf isn't touched is the list's
pub left_then_text : (answer : Answer) (t : Type 0) (status : Status) → Blames answer ⊥ t ⊥ ⊥ ⊥
    → IfOk answer (λ s. s ≡ status) → leaves_shelf answer ≡ true → leaves_shelf (Ok status) ≡ true
left_then_text (Ok s) t status blames is leaves = ap (λ s. leaves_shelf (Ok s)) (sym is) ∙ leaves
left_then_text (Err Datagrams) t status blames is leaves = absurd blames
left_then_text (Err Text) t status blames is leaves = cc
left_then_text (Err Emit) t status blames is leaves = cc
left_then_text (Err Shelf) t status blames is leaves = absurd blames
left_then_text (Err Files) t status blames is leaves = absurd blames
left_then_text (Err Memory) t status blames is leaves = cc
