-- How a run leaves the outside. A run of any task ends with an answer, and each part of the outside is as the task's outcome
-- says by that answer; a part that the task doesn't use is as it was.
use Rattle.std.specs.Prelude.{◌≡◌, ◌⊎◌, ℕ, true, List, drop, Option, Some, Ok, Err, IfOk, MatchOption, MatchBool}
use Rattle.edge_io.specs.Faults.{Rose}
use Rattle.edge_io.specs.declared.place.Place.{Place}
use Rattle.edge_io.specs.declared.datagrams.Datagrams as datagrams
use Rattle.edge_io.specs.declared.emit.Emit as emit
use Rattle.edge_io.specs.declared.files.Files as files
use Rattle.edge_io.specs.declared.shelf.Shelf as shelf
use Rattle.edge_io.specs.declared.text.Text as text
use Rattle.sender_plan.specs.Session.{Session, IsSession}
use Rattle.watch_list.specs.declared.event.Event.{Event}
use Rattle.run_base.specs.Answers.{Blames, AfterAll, AfterTaking, LeavesNothing, LeavesShelf, LeavesSink, LeavesText}
use Rattle.run_base.specs.Outcome.{Outcome, Uses, Writes, IsTold}
use Rattle.run_base.specs.Statuses.{Answer, number, is_one_of, leaves_shelf, leaves_sink}
use Rattle.run_base.specs.Tellings.{Tells}
use Rattle.run_base.specs.declared.fault.Fault.TheVariants.{Memory}
use Rattle.run_base.specs.declared.status.Status.TheVariants.{Done, Missing}
use Rattle.run_words.specs.declared.task.Task.{Task}
use Rattle.run_tasks.specs.Tasks.{uses, outcome, session_of}
use Rattle.run_tasks.specs.declared.edge.Edge.{Edge}

-- the datagrams are connected to the place, and as many are read as are asked for
pub record Takes {D : Type 0} (d : datagrams.Ghosts D) (told : Type 0) (writes : Writes) (asked : ℕ) (place : Place) (old new : D)
    (answer : Answer) : Type 0 where
  pub connected : AfterTaking answer (d.connected new ≡ Some place)
  pub left : told → AfterAll writes answer (d.left new ≡ drop asked (d.left old))

-- the sink is connected to the place, and gets these datagrams; whatever it got of a session that was planned, that session is sound
pub record Sends {E : Type 0} (e : emit.Ghosts E) (told : Type 0) (writes : Writes) (sent : List (List ℕ)) (session : Option Session) (place : Place)
    (old new : E) (answer : Answer) : Type 0 where
  pub gets : told → e.told old → LeavesSink writes answer sent (e.sent old) (e.sent new)
  pub connected : IfOk answer (λ s. s ≡ Done → e.connected new ≡ Some place)
  pub sound : told → (s : Session) → session ≡ Some s → (e.sent new ≡ e.sent old) ⊎ IsSession s
  pub alone : leaves_sink answer ≡ true → new ≡ old

-- `known` says that what the task reads is told. `Gets` says what the text gets; `Hears` which watchers there are where
-- events were heard, and `unheard` that they are as they were.
pub record Ends {D E F S T : Type 0} (d : datagrams.Ghosts D) (e : emit.Ghosts E) (f : files.Ghosts F) (s : shelf.Ghosts S) (t : text.Ghosts T)
    (known : Type 0) (u : Uses) (o : Outcome) (session : Option Session) (old new : Edge D E F S T)
    (Gets : List ℕ → List ℕ → Type 0) (Hears : List Event → Type 0) (unheard : Type 0) (answer : Answer) : Type 0 where
  -- how it ends: whatever is told, as this task can; where what it reads is told, as the outcome says
  pub table : IfOk answer (λ status. is_one_of u.statuses status ≡ true)
  pub status : known → IfOk answer (λ status. status ≡ o.status)
  -- a fault comes only of a device that the task uses, and whose count of faults rose
  pub blames : Blames answer
      (MatchOption u.datagrams ⊥ (λ place. Rose (d.faults old.datagrams) (d.faults new.datagrams)))
      (Rose (t.faults old.text) (t.faults new.text))
      (MatchOption u.emit ⊥ (λ place. Rose (e.faults old.emit) (e.faults new.emit)))
      (MatchBool u.shelf (Rose (s.faults old.shelf) (s.faults new.shelf)) ⊥)
      (MatchBool u.files (Rose (f.faults old.files) (f.faults new.files)) ⊥)
  -- what the text gets
  pub text : known → t.told old.text → Gets (t.written old.text) (t.written new.text)
  pub unwritten : t.told old.text → LeavesNothing u.writes answer (t.written old.text) (t.written new.text)
  -- each other part of the outside
  pub datagrams : MatchOption u.datagrams (new.datagrams ≡ old.datagrams)
      (λ place. Takes d known u.writes o.asked place old.datagrams new.datagrams answer)
  pub emit : MatchOption u.emit (new.emit ≡ old.emit) (λ place. Sends e known u.writes o.sent session place old.emit new.emit answer)
  pub files : MatchBool u.files (IfOk answer (λ status. status ≡ Missing → Rose (f.misses old.files) (f.misses new.files))) (new.files ≡ old.files)
  pub shelf : MatchBool u.shelf (known → s.told old.shelf → LeavesShelf answer o.calls (s.holds old.shelf) (s.holds new.shelf)) (new.shelf ≡ old.shelf)
  pub apart : leaves_shelf answer ≡ true → new.shelf ≡ old.shelf
  -- which events the watchers heard
  pub watchers : MatchBool u.watchers (known → Tells answer o.events o.first_events Hears) unheard

-- what a task reads of this outside is told
abbrev pub IsKnown : {D E F S T : Type 0} → datagrams.Ghosts D → files.Ghosts F → Uses → Edge D E F S T → Type 0
IsKnown d f u old = IsTold u (d.told old.datagrams) (f.told old.files)

-- a run of the task ends with this answer
abbrev pub EndsAs : {D E F S T : Type 0} → datagrams.Ghosts D → emit.Ghosts E → files.Ghosts F → shelf.Ghosts S → text.Ghosts T
    → Task → Edge D E F S T → Edge D E F S T → (List Event → Type 0) → Type 0 → Answer → Type 0
EndsAs d e f s t task old new Hears unheard answer =
    Ends d e f s t (IsKnown d f (uses task) old) (uses task) (outcome task (d.left old.datagrams) (d.torn old.datagrams) (f.found old.files))
    (session_of task (f.found old.files)) old new
    (LeavesText (uses task).writes answer (outcome task (d.left old.datagrams) (d.torn old.datagrams) (f.found old.files)).text) Hears unheard answer

-- it ends with an answer that has this number
pub record Runs {D E F S T : Type 0} (d : datagrams.Ghosts D) (e : emit.Ghosts E) (f : files.Ghosts F) (s : shelf.Ghosts S) (t : text.Ghosts T)
    (task : Task) (old new : Edge D E F S T) (Hears : List Event → Type 0) (unheard : Type 0) (result : ℕ) : Type 0 where
  pub answer : Answer
  pub is : result ≡ number answer
  pub ends : EndsAs d e f s t task old new Hears unheard answer

-- no device failed that the task uses
pub record IsSound {D E F S T : Type 0} (d : datagrams.Ghosts D) (e : emit.Ghosts E) (f : files.Ghosts F) (s : shelf.Ghosts S) (t : text.Ghosts T)
    (u : Uses) (old new : Edge D E F S T) : Type 0 where
  pub datagrams : MatchOption u.datagrams (Unit {0}) (λ place. Rose (d.faults old.datagrams) (d.faults new.datagrams) → ⊥)
  pub text : Rose (t.faults old.text) (t.faults new.text) → ⊥
  pub emit : MatchOption u.emit (Unit {0}) (λ place. Rose (e.faults old.emit) (e.faults new.emit) → ⊥)
  pub shelf : MatchBool u.shelf (Rose (s.faults old.shelf) (s.faults new.shelf) → ⊥) (Unit {0})
  pub files : MatchBool u.files (Rose (f.faults old.files) (f.faults new.files) → ⊥) (Unit {0})

-- where what it reads is told and no device failed, the number is the outcome's, or there was no memory
abbrev pub Completes : {D E F S T : Type 0} → datagrams.Ghosts D → emit.Ghosts E → files.Ghosts F → shelf.Ghosts S → text.Ghosts T
    → Uses → Outcome → Edge D E F S T → Edge D E F S T → ℕ → Type 0
Completes d e f s t u o old new result =
    IsKnown d f u old → IsSound d e f s t u old new → (result ≡ number (Ok o.status)) ⊎ (result ≡ number (Err Memory))
