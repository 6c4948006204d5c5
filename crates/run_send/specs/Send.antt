-- What a send comes to: all that it sends, or the line that says what refuses it first.
use Rattle.std.specs.Prelude.{◌≡◌, ℕ, ◌+◌, nat_lt, true, false, if◌then◌else◌, List, [], ◌∷◌, ◌++◌, length, map, Option, Some, None, option_map, Result, Ok, Err, codes}
use Rattle.std.specs.Result.{result_ok}
use Rattle.wire_bytes.specs.FirstFault.{first_fault, unless_fault}
use Rattle.sender_plan.specs.CatalogInstance.{CatalogInstance}
use Rattle.sender_plan.specs.Catalog.{reading}
use Rattle.sender_plan.specs.Check.{check_faults, most_bytes}
use Rattle.sender_plan.specs.Names.{names_of}
use Rattle.sender_plan.specs.Plan.{planned, plan_faults}
use Rattle.sender_plan.specs.PlanOf.{IsPlanOf}
use Rattle.sender_plan.specs.Session.{Session}
use Rattle.sender_plan.specs.declared.fault.PlanFault.{PlanFault}
use Rattle.sender_plan.specs.declared.fault.PlanFault.TheVariants.{NumberNotRising, TooManyFiles, TooLarge, Params, Memory}
use Rattle.sender_plan.specs.declared.params.Params as params
use Rattle.sender_schedule.specs.Schedule.{schedule}
use Rattle.run_base.specs.Outcome.{Outcome, Uses, Once, text_outcome}
use Rattle.watch_list.specs.EventLines.{labelled}
use Rattle.run_base.specs.Texts.{line}
use Rattle.run_base.specs.declared.status.Status.{Status}
use Rattle.run_base.specs.declared.status.Status.TheVariants as statuses
use Rattle.run_send.specs.declared.sending.Sending.{Sending}
use Rattle.run_send.specs.declared.sending.Refusal.{Refusal}
use Rattle.run_send.specs.declared.sending.Refusal.TheVariants.{Line, Plan, Absent, TooBig}

-- what each name stands for
abbrev pub Found : Type 0
Found = List ℕ → Option (List ℕ)

-- what is asked next, where nothing refused
abbrev pub and_then : {A B : Type 0} → Result A Refusal → (A → Result B Refusal) → Result B Refusal
and_then (Ok a) f = f a
and_then (Err refusal) f = Err refusal

-- how many bytes a file may have
abbrev pub most_file : ℕ
most_file = 16777216

-- the bytes under a name
abbrev pub bytes_under : List ℕ → Option (List ℕ) → Result (List ℕ) Refusal
bytes_under name None = Err (Absent name)
bytes_under name (Some bytes) = if nat_lt most_file (length bytes) then Err (TooBig name) else Ok bytes

-- what a reading gives, where this says what a bad line comes to
abbrev pub unless_bad : {B : Type 0} → (B → Refusal) → Result (List CatalogInstance) B → Result (List CatalogInstance) Refusal
unless_bad refusal (Ok instances) = Ok instances
unless_bad refusal (Err bad) = Err (refusal bad)

-- what a catalog's text lists, unless a line is bad
abbrev pub catalog_in : List ℕ → Result (List CatalogInstance) Refusal
catalog_in text = unless_bad (λ bad. Line bad.line bad.cause) (reading text)

-- a plan's fault by its number and its place; want of memory is none, and has no number
abbrev pub refusal_of : PlanFault → Refusal
refusal_of (NumberNotRising at) = Plan 1 at
refusal_of (TooManyFiles at) = Plan 2 at
refusal_of (TooLarge total) = Plan 3 total
refusal_of Params = Plan 4 0
refusal_of Memory = Plan 0 0

-- a value, unless one of a plan's faults holds
abbrev pub unless_any : {A : Type 0} → List (Option PlanFault) → A → Result A Refusal
unless_any faults value = unless_fault (option_map refusal_of (first_fault faults)) value

-- a body behind so many bytes of other bodies
abbrev pub within : ℕ → List ℕ → Result (List ℕ) Refusal
within before body = if nat_lt most_bytes (before + length body) then Err (refusal_of (TooLarge (before + length body))) else Ok body

-- the bodies of these names in order, behind so many bytes of other bodies
abbrev pub bodies_of : Found → ℕ → List (List ℕ) → Result (List (List ℕ)) Refusal
bodies_of found before [] = Ok []
bodies_of found before (name ∷ names) =
    and_then (and_then (bytes_under name (found name)) (within before)) (λ body.
    and_then (bodies_of found (before + length body) names) (λ bodies. Ok (body ∷ bodies)))

-- a catalog that `check` refuses
abbrev pub checked : List CatalogInstance → params.Params → Result (Unit {0}) Refusal
checked instances params = unless_any (check_faults instances params) tt

-- the session of a catalog that is checked and planned
abbrev pub session_of : Found → params.Params → List CatalogInstance → Result Session Refusal
session_of found params instances =
    and_then (checked instances params) (λ none.
    and_then (bodies_of found 0 (names_of instances)) (λ bodies.
    unless_any (plan_faults instances bodies params) (planned instances bodies params)))

-- the session that is sent, or what refuses it first
abbrev pub asked : Found → Sending → Result Session Refusal
asked found s =
    and_then (bytes_under s.catalog (found s.catalog)) (λ text.
    and_then (catalog_in text) (session_of found s.params))

-- the session is planned of what the catalog's text lists, and of the bodies that the files have under its names
pub record IsPlannedOf (found : Found) (s : Sending) (session : Session) : Type 0 where
  pub text : List ℕ
  pub instances : List CatalogInstance
  pub bodies : List (List ℕ)
  pub there : found s.catalog ≡ Some text
  pub listed : reading text ≡ Ok instances
  pub read : map found (names_of instances) ≡ map (λ body. Some body) bodies
  pub plan : IsPlanOf instances bodies s.params session

abbrev pub refusal_status : Refusal → Status
refusal_status (Line number cause) = statuses.Refused
refusal_status (Plan cause at) = statuses.Refused
refusal_status (Absent name) = statuses.Missing
refusal_status (TooBig name) = statuses.Missing

abbrev pub refusal_text : Refusal → List ℕ
refusal_text (Line number cause) = labelled (codes "catalog refused: line ") number ++ labelled (codes " cause ") cause
refusal_text (Plan cause at) = labelled (codes "plan refused: cause ") cause ++ labelled (codes " at ") at
refusal_text (Absent name) = codes "no such file: " ++ name
refusal_text (TooBig name) = codes "file too large: " ++ name

abbrev pub refusal_line : Refusal → List ℕ
refusal_line refusal = line (refusal_text refusal)

abbrev pub send_statuses : List Status
send_statuses = statuses.Done ∷ statuses.Refused ∷ statuses.Missing ∷ []

-- a send reads the files, and sends to this place
abbrev pub send_uses : Sending → Uses
send_uses s = record {
  datagrams = None;
  emit = Some s.place;
  files = true;
  shelf = false;
  watchers = false;
  writes = Once;
  statuses = send_statuses;
}

-- all datagrams of a session; or none of them, and a line
abbrev pub sent_by : Result Session Refusal → Outcome
sent_by (Ok session) =
    record { status = statuses.Done; text = []; sent = schedule session; calls = []; events = []; first_events = λ n. []; asked = 0 }
sent_by (Err refusal) = text_outcome (refusal_status refusal) (refusal_line refusal) 0

-- of a send with these files
unfoldable pub sent : Found → Sending → Outcome
sent found s = sent_by (asked found s)

-- the session that is sent, where nothing refuses one
unfoldable pub session_asked : Found → Sending → Option Session
session_asked found s = result_ok (asked found s)
