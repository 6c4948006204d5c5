-- The headline, of the way in which a run leaves the outside.
use Rattle.std.proofs.Common.{◌≡◌, ℕ, List, ◌++◌, ◌∙◌, refl, sym, subst, append_assoc}
use Rattle.std.specs.Prelude.{Some, Option}
use Rattle.std.specs.List.{All}
use Rattle.edge_io.specs.declared.datagrams.Datagrams as datagrams
use Rattle.edge_io.specs.declared.emit.Emit as emit
use Rattle.edge_io.specs.declared.files.Files as files
use Rattle.edge_io.specs.declared.shelf.Shelf as shelf
use Rattle.edge_io.specs.declared.text.Text as text
use Rattle.held_packets.specs.Session.{Session, IsSession}
use Rattle.watch_list.specs.declared.event.Event.{Event}
use Rattle.run_base.specs.Bounds.{datagrams_taken}
use Rattle.run_base.specs.Statuses.{Answer, number, ReadsToEnd}
use Rattle.run_base.specs.declared.settings.Settings.{Settings}
use Rattle.run_base.proofs.Public.{at_end_of}
use Rattle.run_headline.specs.Headline.{IsDatagramOf, InstallsBest}
use Rattle.run_headline.proofs.Public.{headline}
use Rattle.run_receive.specs.Outcome.{received}
use Rattle.run_words.specs.declared.listening.Listening.{Listening}
use Rattle.run_words.specs.declared.task.Task.{Task}
use Rattle.run_words.specs.declared.task.Task.TheVariants as tasks
use Rattle.run_tasks.specs.Listens as listens
use Rattle.run_tasks.specs.ListensBest.{ListensBest}
use Rattle.run_tasks.specs.Runs.{EndsAs}
use Rattle.run_tasks.specs.declared.edge.Edge.{Edge}

pub headline_of : {D E F S T : Type 0} (d : datagrams.Ghosts D) (e : emit.Ghosts E) (f : files.Ghosts F) (s : shelf.Ghosts S) (t : text.Ghosts T)
    (task : Task) (old new : Edge D E F S T) (Hears : List Event → Type 0) (unheard : Type 0) (answer : Answer) (result : ℕ) → result ≡ number answer
    → EndsAs d e f s t task old new Hears unheard answer
    → (c : Settings) → task ≡ tasks.Receive c → (session : Session) → IsSession session → d.told old.datagrams → s.told old.shelf → t.told old.text
    → All (IsDatagramOf session c.tsi) (datagrams_taken c (d.left old.datagrams)) → ReadsToEnd result
    → InstallsBest session c (datagrams_taken c (d.left old.datagrams)) (s.holds old.shelf) (s.holds new.shelf) (t.written old.text) (t.written new.text)
headline_of d e f s t task old new Hears unheard answer result is ends c receives session sound told shelved written datagrams reads =
    let end = at_end_of answer result is reads in
    let done = subst (λ (a : Answer). EndsAs d e f s t (tasks.Receive c) old new Hears unheard a) end.is
    (subst (λ (task : Task). EndsAs d e f s t task old new Hears unheard answer) receives ends) in
    headline session c (d.left old.datagrams) (d.torn old.datagrams) end.status _ _ _ _ sound datagrams end.at_end
    (done.status told) (done.shelf told shelved) (done.text told written)

-- the lines of the readers are behind the report
pub listens_best_of : {D E F S T : Type 0} (d : datagrams.Ghosts D) (e : emit.Ghosts E) (f : files.Ghosts F) (s : shelf.Ghosts S) (t : text.Ghosts T)
    (listening : Option Listening) (old new : Edge D E F S T) (Hears : List Event → Type 0) (unheard : Type 0) (answer : Answer) (result : ℕ)
    → result ≡ number answer → listens.EndsAs d e f s t listening old new Hears unheard answer
    → (l : Listening) → listening ≡ Some l → (session : Session) → IsSession session → d.told old.datagrams → s.told old.shelf → t.told old.text
    → All (IsDatagramOf session l.settings.tsi) (datagrams_taken l.settings (d.left old.datagrams)) → ReadsToEnd result
    → ListensBest session l (datagrams_taken l.settings (d.left old.datagrams)) (s.holds old.shelf) (s.holds new.shelf) (t.written old.text) (t.written new.text)
listens_best_of d e f s t listening old new Hears unheard answer result is ends l listened session sound told shelved written datagrams reads =
    let end = at_end_of answer result is reads in
    let done = subst (λ (a : Answer). listens.EndsAs d e f s t (Some l) old new Hears unheard a) end.is
    (subst (λ (o : Option Listening). listens.EndsAs d e f s t o old new Hears unheard answer) listened ends) in
    let report = (received l.settings (d.left old.datagrams) (d.torn old.datagrams)).text in
    let tells = done.text told written in
    record {
      middle = t.written old.text ++ report;
      best = headline session l.settings (d.left old.datagrams) (d.torn old.datagrams) end.status _ _ (t.written old.text) (t.written old.text ++ report)
          sound datagrams end.at_end (done.status told) (done.shelf told shelved) refl;
      lines = tells.lines;
      are = tells.are;
      behind = tells.all ∙ sym (append_assoc (t.written old.text) report tells.lines);
    }
