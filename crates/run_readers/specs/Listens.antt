-- How a listening ends, by cases on its answer, and how it comes of that of its receiver.
use Rattle.std.specs.Prelude.{◌≡◌, ℕ, List, ◌++◌, Ok, Err, MatchBool}
use Rattle.carousel_cid.specs.Instances.{Shown}
use Rattle.run_base.specs.Answers.{Blames, may_write}
use Rattle.run_base.specs.Outcome.{Pieces}
use Rattle.run_base.specs.Statuses.{Answer}
use Rattle.run_readers.specs.ReaderLines.{AreReaderLines, TellsReaders, TellsPart}

-- the text gets the report and the lines of the readers, or a part of them, or nothing
abbrev pub LeavesLines : Answer → List Shown → ℕ → List ℕ → List ℕ → List ℕ → Type 0
LeavesLines (Ok status) published readers report old new = TellsReaders published readers report old new
LeavesLines (Err fault) published readers report old new = MatchBool (may_write Pieces fault) (TellsPart published readers report old new) (new ≡ old)

-- the lines of the readers are added
pub record AddsReaderLines (published : List Shown) (readers : ℕ) (old new : List ℕ) : Type 0 where
  pub lines : List ℕ
  pub are : AreReaderLines published readers lines
  pub all : new ≡ old ++ lines

abbrev pub AddsLines : Answer → List Shown → ℕ → List ℕ → List ℕ → Type 0
AddsLines (Ok status) published readers old new = AddsReaderLines published readers old new
AddsLines (Err fault) published readers old new = new ≡ old

-- The receiver's fault is the answer. After its end there may be no memory, and the text may fail where this holds of it.
abbrev pub ComesOf : Answer → Answer → Type 0 → Type 0
ComesOf (Ok status) (Ok s) text = s ≡ status
ComesOf (Ok status) (Err fault) text = Blames {A = Unit {0}} (Err fault) ⊥ text ⊥ ⊥ ⊥
ComesOf (Err fault) answer text = answer ≡ Err fault
