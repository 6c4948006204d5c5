-- How a listening leaves the outside: as its receiver does, with the lines of the readers after the report.
use Rattle.std.specs.Prelude.{◌≡◌, ℕ, List, [], ◌∷◌, Option, Some, None}
use Rattle.edge_io.specs.declared.datagrams.Datagrams as datagrams
use Rattle.edge_io.specs.declared.emit.Emit as emit
use Rattle.edge_io.specs.declared.files.Files as files
use Rattle.edge_io.specs.declared.shelf.Shelf as shelf
use Rattle.edge_io.specs.declared.text.Text as text
use Rattle.watch_list.specs.declared.event.Event.{Event}
use Rattle.run_base.specs.Answers.{LeavesText}
use Rattle.run_base.specs.Outcome.{Outcome, Uses, Once, text_outcome, text_uses}
use Rattle.run_base.specs.Statuses.{Answer, number}
use Rattle.run_base.specs.Texts.{usage_line}
use Rattle.run_base.specs.declared.status.Status.TheVariants.{NoCommand}
use Rattle.run_readers.specs.Listens.{LeavesLines}
use Rattle.run_receive.specs.Events.{published}
use Rattle.run_receive.specs.Outcome.{received, listen_uses}
use Rattle.run_words.specs.declared.listening.Listening.{Listening}
use Rattle.run_tasks.specs.Runs.{Ends, IsKnown}
use Rattle.run_tasks.specs.declared.edge.Edge.{Edge}

-- the usage line is told of words that are no listening
abbrev pub uses : Option Listening → Uses
uses None = text_uses (NoCommand ∷ [])
uses (Some l) = listen_uses l.settings

abbrev pub outcome : Option Listening → List (List ℕ) → Option ℕ → Outcome
outcome None left torn = text_outcome NoCommand usage_line 0
outcome (Some l) left torn = received l.settings left torn

-- what the text gets of a listening to these datagrams
abbrev pub Gets : Option Listening → List (List ℕ) → Option ℕ → Answer → List ℕ → List ℕ → Type 0
Gets None left torn answer old new = LeavesText Once answer usage_line old new
Gets (Some l) left torn answer old new = LeavesLines answer (published l.settings left) l.readers (received l.settings left torn).text old new

-- a listening ends with this answer
abbrev pub EndsAs : {D E F S T : Type 0} → datagrams.Ghosts D → emit.Ghosts E → files.Ghosts F → shelf.Ghosts S → text.Ghosts T
    → Option Listening → Edge D E F S T → Edge D E F S T → (List Event → Type 0) → Type 0 → Answer → Type 0
EndsAs d e f s t listening old new Hears unheard answer =
    Ends d e f s t (IsKnown d f (uses listening) old) (uses listening) (outcome listening (d.left old.datagrams) (d.torn old.datagrams)) None old new
    (Gets listening (d.left old.datagrams) (d.torn old.datagrams) answer) Hears unheard answer

-- it ends with an answer that has this number
pub record Listens {D E F S T : Type 0} (d : datagrams.Ghosts D) (e : emit.Ghosts E) (f : files.Ghosts F) (s : shelf.Ghosts S) (t : text.Ghosts T)
    (listening : Option Listening) (old new : Edge D E F S T) (Hears : List Event → Type 0) (unheard : Type 0) (result : ℕ) : Type 0 where
  pub answer : Answer
  pub is : result ≡ number answer
  pub ends : EndsAs d e f s t listening old new Hears unheard answer
