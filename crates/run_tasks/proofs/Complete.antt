-- What follows of the way in which a run leaves the outside, for any task.
use Rattle.std.proofs.Common.{◌≡◌, ℕ, Bool, true, false, List, [], ◌∷◌, ◌∙◌, refl, sym, ap, subst, Option, Some, None, inl, inr}
use Rattle.std.specs.Prelude.{◌⊎◌, Ok, Err, IfOk, IsErrAnd, MatchOption, MatchBool}
use Rattle.edge_io.specs.declared.place.Place.{Place}
use Rattle.edge_io.specs.declared.datagrams.Datagrams as datagrams
use Rattle.edge_io.specs.declared.emit.Emit as emit
use Rattle.edge_io.specs.declared.files.Files as files
use Rattle.edge_io.specs.declared.shelf.Shelf as shelf
use Rattle.edge_io.specs.declared.text.Text as text
use Rattle.edge_io.specs.Faults.{Rose}
use Rattle.edge_io.specs.ShelfCalls.{Call}
use Rattle.sender_plan.specs.Session.{Session}
use Rattle.watch_list.specs.declared.event.Event.{Event}
use Rattle.run_base.specs.Answers.{Blames, AfterAll, AfterTaking, LeavesNothing, LeavesShelf, LeavesText}
use Rattle.run_base.specs.Outcome.{Outcome, Uses, Writes, Once, Pieces, Streams}
use Rattle.run_base.specs.Statuses.{Answer, number, is_one_of}
use Rattle.run_base.specs.Tellings.{Tells}
use Rattle.run_base.specs.declared.fault.Fault.{Fault}
use Rattle.run_base.specs.declared.fault.Fault.TheVariants.{Datagrams, Text, Emit, Shelf, Files, Memory}
use Rattle.run_base.specs.declared.status.Status.{Status}
use Rattle.run_base.proofs.Public.{nothing_added}
use Rattle.run_base.specs.Texts.{usage_line}
use Rattle.run_base.specs.declared.status.Status.TheVariants.{NoCommand}
use Rattle.run_readers.proofs.Public.{nothing_told}
use Rattle.run_receive.specs.Events.{published}
use Rattle.run_words.specs.declared.listening.Listening.{Listening}
use Rattle.run_words.specs.declared.task.Task.{Task}
use Rattle.run_tasks.specs.Listens as listens
use Rattle.run_tasks.specs.Runs.{Completes, Ends, EndsAs, IsKnown, Sends, Takes}
use Rattle.run_tasks.specs.Tasks as tasks
use Rattle.run_tasks.specs.declared.edge.Edge.{Edge}

-- ---- where no device failed

no_place : (place : Option Place) (Rises : Type 0) → MatchOption place (Unit {0}) (λ p. Rises → ⊥) → MatchOption place ⊥ (λ p. Rises) → ⊥
no_place None Rises sound blamed = blamed
no_place (Some place) Rises sound blamed = sound blamed

no_part : (used : Bool) (Rises : Type 0) → MatchBool used (Rises → ⊥) (Unit {0}) → MatchBool used Rises ⊥ → ⊥
no_part true Rises sound blamed = sound blamed
no_part false Rises sound blamed = blamed

completed : (answer : Answer) (result : ℕ) (status : Status) (d t e s f : Type 0) → result ≡ number answer → Blames answer d t e s f
    → (d → ⊥) → (t → ⊥) → (e → ⊥) → (s → ⊥) → (f → ⊥) → IfOk answer (λ v. v ≡ status)
    → (result ≡ number (Ok status)) ⊎ (result ≡ number (Err Memory))
completed (Ok v) result status d t e s f is blames nd nt ne ns nf same = inl (is ∙ ap (λ v. number (Ok v)) same)
completed (Err Datagrams) result status d t e s f is blames nd nt ne ns nf same = absurd (nd blames)
completed (Err Text) result status d t e s f is blames nd nt ne ns nf same = absurd (nt blames)
completed (Err Emit) result status d t e s f is blames nd nt ne ns nf same = absurd (ne blames)
completed (Err Shelf) result status d t e s f is blames nd nt ne ns nf same = absurd (ns blames)
completed (Err Files) result status d t e s f is blames nd nt ne ns nf same = absurd (nf blames)
completed (Err Memory) result status d t e s f is blames nd nt ne ns nf same = inr is

pub completes_of : {D E F S T : Type 0} (d : datagrams.Ghosts D) (e : emit.Ghosts E) (f : files.Ghosts F) (s : shelf.Ghosts S) (t : text.Ghosts T)
    (u : Uses) (o : Outcome) (session : Option Session) (old new : Edge D E F S T) (Gets : List ℕ → List ℕ → Type 0)
    (Hears : List Event → Type 0) (unheard : Type 0) (answer : Answer) (result : ℕ) → result ≡ number answer
    → Ends d e f s t (IsKnown d f u old) u o session old new Gets Hears unheard answer → Completes d e f s t u o old new result
completes_of d e f s t u o session old new Gets Hears unheard answer result is ends known sound =
    completed answer result o.status _ _ _ _ _ is ends.blames
    (no_place u.datagrams _ sound.datagrams) sound.text (no_place u.emit _ sound.emit) (no_part u.shelf _ sound.shelf) (no_part u.files _ sound.files)
    (ends.status known)

-- ---- where there is no memory at once

pub text_at_once : (writes : Writes) (text old : List ℕ) → LeavesText {A = Status} writes (Err Memory) text old old
text_at_once Once text old = refl
text_at_once Pieces text old = nothing_added text old old refl
text_at_once Streams text old = nothing_added text old old refl

nothing_at_once : (writes : Writes) (old : List ℕ) → LeavesNothing {A = Status} writes (Err Memory) old old
nothing_at_once Once old = refl
nothing_at_once Pieces old = tt
nothing_at_once Streams old = tt

none_read : (writes : Writes) (P : Type 0) → AfterAll {A = Status} writes (Err Memory) P
none_read Once P = tt
none_read Pieces P = tt
none_read Streams P = tt

datagrams_at_once : {D : Type 0} (d : datagrams.Ghosts D) (known : Type 0) (writes : Writes) (asked : ℕ) (place : Option Place) (old : D)
    → MatchOption place (old ≡ old) (λ p. Takes d known writes asked p old old (Err Memory))
datagrams_at_once d known writes asked None old = refl
datagrams_at_once d known writes asked (Some place) old = record { connected = tt; left = λ told. none_read writes _ }

sink_at_once : {E : Type 0} (e : emit.Ghosts E) (known : Type 0) (writes : Writes) (sent : List (List ℕ)) (session : Option Session) (place : Option Place) (old : E)
    → MatchOption place (old ≡ old) (λ p. Sends e known writes sent session p old old (Err Memory))
sink_at_once e known writes sent session None old = refl
sink_at_once e known writes sent session (Some place) old = record {
  gets = λ told sink. nothing_added sent (e.sent old) (e.sent old) refl;
  connected = tt;
  sound = λ told made is. inl refl;
  alone = λ leaves. refl;
}

files_at_once : {F : Type 0} (used : Bool) (old : F) → MatchBool used (Unit {0}) (old ≡ old)
files_at_once true old = tt
files_at_once false old = refl

shelf_at_once : {S : Type 0} (s : shelf.Ghosts S) (known : Type 0) (used : Bool) (calls : List Call) (old : S)
    → MatchBool used (known → s.told old → LeavesShelf {A = Status} (Err Memory) calls (s.holds old) (s.holds old)) (old ≡ old)
shelf_at_once s known true calls old = λ told shelved. record { accepted = 0; holds = refl }
shelf_at_once s known false calls old = refl

heard_at_once : (used : Bool) (known unheard : Type 0) (o : Outcome) (Hears : List Event → Type 0) → Hears [] → unheard
    → MatchBool used (known → Tells {A = Status} (Err Memory) o.events o.first_events Hears) unheard
heard_at_once true known unheard o Hears none same = λ told. record { front = []; rest = o.events; is = refl; hears = none }
heard_at_once false known unheard o Hears none same = same

pub ends_at_once : {D E F S T : Type 0} (d : datagrams.Ghosts D) (e : emit.Ghosts E) (f : files.Ghosts F) (s : shelf.Ghosts S) (t : text.Ghosts T)
    (known : Type 0) (u : Uses) (o : Outcome) (session : Option Session) (old : Edge D E F S T) (Gets : List ℕ → List ℕ → Type 0)
    (Hears : List Event → Type 0) (unheard : Type 0) → Gets (t.written old.text) (t.written old.text) → Hears [] → unheard
    → Ends d e f s t known u o session old old Gets Hears unheard (Err Memory)
ends_at_once d e f s t known u o session old Gets Hears unheard gets none same = record {
  table = tt;
  status = λ told. tt;
  blames = tt;
  text = λ told written. gets;
  unwritten = λ written. nothing_at_once u.writes (t.written old.text);
  datagrams = datagrams_at_once d known u.writes o.asked u.datagrams old.datagrams;
  emit = sink_at_once e known u.writes o.sent session u.emit old.emit;
  files = files_at_once u.files old.files;
  shelf = shelf_at_once s known u.shelf o.calls old.shelf;
  apart = λ leaves. refl;
  watchers = heard_at_once u.watchers known unheard o Hears none same;
}

-- memory is the one fault
pub at_memory : (answer : Answer) (P : Answer → Type 0) → IsErrAnd answer (λ e. e ≡ Memory) → P (Err Memory) → P answer
at_memory (Ok status) P is holds = absurd is
at_memory (Err fault) P is holds = subst (λ (f : Fault). P (Err f)) (sym is) holds

-- what holds does so once the datagrams were all taken
pub after_taking : (answer : Answer) (P : Type 0) → P → AfterTaking answer P
after_taking (Ok status) P holds = holds
after_taking (Err Datagrams) P holds = tt
after_taking (Err Text) P holds = holds
after_taking (Err Emit) P holds = holds
after_taking (Err Shelf) P holds = holds
after_taking (Err Files) P holds = tt
after_taking (Err Memory) P holds = tt

-- ---- what the words are

-- what is so of a task is so of the words that it was read of
pub for_task : {D E F S T : Type 0} (d : datagrams.Ghosts D) (e : emit.Ghosts E) (f : files.Ghosts F) (s : shelf.Ghosts S) (t : text.Ghosts T)
    (task words : Task) (old new : Edge D E F S T) (Hears : List Event → Type 0) (unheard : Type 0) (answer : Answer) → task ≡ words
    → EndsAs d e f s t task old new Hears unheard answer → EndsAs d e f s t words old new Hears unheard answer
for_task d e f s t task words old new Hears unheard answer is ends = subst (λ (task : Task). EndsAs d e f s t task old new Hears unheard answer) is ends

pub task_at_memory : {D E F S T : Type 0} (d : datagrams.Ghosts D) (e : emit.Ghosts E) (f : files.Ghosts F) (s : shelf.Ghosts S) (t : text.Ghosts T)
    (task : Task) (old : Edge D E F S T) (Hears : List Event → Type 0) (unheard : Type 0) (answer : Answer)
    → IsErrAnd answer (λ e. e ≡ Memory) → Hears [] → unheard → EndsAs d e f s t task old old Hears unheard answer
task_at_memory d e f s t task old Hears unheard answer is none same =
    at_memory answer (λ (a : Answer). EndsAs d e f s t task old old Hears unheard a) is
    (ends_at_once d e f s t _ (tasks.uses task) _ _ old _ Hears unheard (text_at_once (tasks.uses task).writes _ (t.written old.text)) none same)

pub for_listening : {D E F S T : Type 0} (d : datagrams.Ghosts D) (e : emit.Ghosts E) (f : files.Ghosts F) (s : shelf.Ghosts S) (t : text.Ghosts T)
    (read words : Option Listening) (old new : Edge D E F S T) (Hears : List Event → Type 0) (unheard : Type 0) (answer : Answer) → read ≡ words
    → listens.EndsAs d e f s t read old new Hears unheard answer → listens.EndsAs d e f s t words old new Hears unheard answer
for_listening d e f s t read words old new Hears unheard answer is ends =
    subst (λ (o : Option Listening). listens.EndsAs d e f s t o old new Hears unheard answer) is ends

lines_at_once : (listening : Option Listening) (left : List (List ℕ)) (torn : Option ℕ) (old : List ℕ) → listens.Gets listening left torn (Err Memory) old old
lines_at_once None left torn old = refl
lines_at_once (Some l) left torn old = nothing_told (published l.settings left) l.readers _ old old refl

pub listening_at_memory : {D E F S T : Type 0} (d : datagrams.Ghosts D) (e : emit.Ghosts E) (f : files.Ghosts F) (s : shelf.Ghosts S) (t : text.Ghosts T)
    (listening : Option Listening) (old : Edge D E F S T) (Hears : List Event → Type 0) (unheard : Type 0) (answer : Answer)
    → IsErrAnd answer (λ e. e ≡ Memory) → Hears [] → unheard → listens.EndsAs d e f s t listening old old Hears unheard answer
listening_at_memory d e f s t listening old Hears unheard answer is none same =
    at_memory answer (λ (a : Answer). listens.EndsAs d e f s t listening old old Hears unheard a) is
    (ends_at_once d e f s t _ (listens.uses listening) _ _ old _ Hears unheard (lines_at_once listening _ _ (t.written old.text)) none same)

-- ---- the usage line

usage_table : (answer : Answer) → IfOk answer (λ s. s ≡ NoCommand) → IfOk answer (λ s. is_one_of (NoCommand ∷ []) s ≡ true)
usage_table (Ok s) is = ap (is_one_of (NoCommand ∷ [])) is
usage_table (Err f) is = tt

usage_unwritten : (answer : Answer) (old new : List ℕ) → LeavesText Once answer usage_line old new → LeavesNothing Once answer old new
usage_unwritten (Ok s) old new leaves = tt
usage_unwritten (Err f) old new leaves = leaves

pub usage_ends : {D E F S T : Type 0} (d : datagrams.Ghosts D) (e : emit.Ghosts E) (f : files.Ghosts F) (s : shelf.Ghosts S) (t : text.Ghosts T)
    (old : Edge D E F S T) (text : T) (Hears : List Event → Type 0) (unheard : Type 0) (answer : Answer) → IfOk answer (λ s. s ≡ NoCommand)
    → (t.told old.text → LeavesText Once answer usage_line (t.written old.text) (t.written text))
    → Blames answer ⊥ (Rose (t.faults old.text) (t.faults text)) ⊥ ⊥ ⊥ → unheard
    → listens.EndsAs d e f s t None old (record { datagrams = old.datagrams; emit = old.emit; files = old.files; shelf = old.shelf; text = text }) Hears unheard answer
usage_ends d e f s t old text Hears unheard answer is leaves blames same = record {
  table = usage_table answer is;
  status = λ known. is;
  blames = blames;
  text = λ known told. leaves told;
  unwritten = λ told. usage_unwritten answer _ _ (leaves told);
  datagrams = refl;
  emit = refl;
  files = refl;
  shelf = refl;
  apart = λ leaves. refl;
  watchers = same;
}
