-- What each task uses of the outside, and what it comes to: a case a task.
use Rattle.std.specs.Prelude.{ℕ, List, [], ◌∷◌, Option, None}
use Rattle.sender_plan.specs.Session.{Session}
use Rattle.run_base.specs.Outcome.{Outcome, Uses, text_outcome, text_uses}
use Rattle.run_base.specs.Texts.{usage_line}
use Rattle.run_base.specs.declared.status.Status.TheVariants.{NoCommand}
use Rattle.run_words.specs.declared.task.Task.{Task}
use Rattle.run_words.specs.declared.task.Task.TheVariants.{Usage, Receive, Dump, Send, Drill}
use Rattle.run_receive.specs.Outcome.{received, receive_uses}
use Rattle.run_dump.specs.Dump.{dumped, dump_uses}
use Rattle.run_send.specs.Send.{Found, sent, send_uses, session_asked}
use Rattle.run_drill.specs.Drill.{drilled, drill_uses}

abbrev pub uses : Task → Uses
uses Usage = text_uses (NoCommand ∷ [])
uses (Receive settings) = receive_uses settings
uses (Dump most) = dump_uses
uses (Send sending) = send_uses sending
uses (Drill start) = drill_uses

-- with these datagrams left, whose log is torn there, and these files
abbrev pub outcome : Task → List (List ℕ) → Option ℕ → Found → Outcome
outcome Usage left torn found = text_outcome NoCommand usage_line 0
outcome (Receive settings) left torn found = received settings left torn
outcome (Dump most) left torn found = dumped most left torn
outcome (Send sending) left torn found = sent found sending
outcome (Drill start) left torn found = drilled start

-- the session that is sent, where the task plans one
abbrev pub session_of : Task → Found → Option Session
session_of (Send sending) found = session_asked found sending
session_of task found = None
