-- How the stages of a send end, by cases on their answer.
use Rattle.std.specs.Prelude.{◌≡◌, ℕ, List, [], ◌++◌, Result, Ok, Err}
use Rattle.sender_plan.specs.declared.fault.PlanFault.{PlanFault}
use Rattle.sender_plan.specs.declared.fault.PlanFault.TheVariants as plans
use Rattle.run_base.specs.Outcome.{Outcome, text_outcome}
use Rattle.run_base.specs.Parts.{AddsPart}
use Rattle.run_base.specs.declared.status.Status.TheVariants.{Done}
use Rattle.run_send.specs.Send.{refusal_of, refusal_status, refusal_line}
use Rattle.run_send.specs.declared.sending.Refusal.{Refusal}
use Rattle.run_send.specs.declared.sending.Refusal.TheVariants.{Line, Plan, Absent, TooBig}
use Rattle.run_send.specs.declared.sending.Stop.{Stop}
use Rattle.run_send.specs.declared.sending.Stop.TheVariants.{Refused, Emit, Files, Memory}

-- the answer is what is asked, but for a device that failed and want of memory
abbrev pub Decides : {A : Type 0} → Result A Refusal → Result A Stop → Type 0
Decides asked (Ok a) = asked ≡ Ok a
Decides asked (Err (Refused refusal)) = asked ≡ Err refusal
Decides asked (Err Emit) = Unit {0}
Decides asked (Err Files) = Unit {0}
Decides asked (Err Memory) = Unit {0}

-- a file that is absent or too big comes only where this holds of the misses
abbrev pub Misses : Refusal → Type 0 → Type 0
Misses (Line number cause) missed = Unit {0}
Misses (Plan cause at) missed = Unit {0}
Misses (Absent name) missed = missed
Misses (TooBig name) missed = missed

-- a stop comes only where this holds of its device
abbrev pub HaltsAt : Stop → Type 0 → Type 0 → Type 0 → Type 0
HaltsAt (Refused refusal) emit files missed = Misses refusal missed
HaltsAt Emit emit files missed = emit
HaltsAt Files emit files missed = files
HaltsAt Memory emit files missed = Unit {0}

abbrev pub Halts : {A : Type 0} → Result A Stop → Type 0 → Type 0 → Type 0 → Type 0
Halts (Ok a) emit files missed = Unit {0}
Halts (Err stop) emit files missed = HaltsAt stop emit files missed

-- what the sink gets of these datagrams
abbrev pub Sends : {A E : Type 0} → Result A E → List (List ℕ) → List (List ℕ) → List (List ℕ) → Type 0
Sends (Ok a) datagrams old new = new ≡ old ++ datagrams
Sends (Err e) datagrams old new = AddsPart datagrams old new

-- these are the datagrams that were sent of a list, and those that are left of it
pub record HasSent (left list old new : List (List ℕ)) : Type 0 where
  pub sent : List (List ℕ)
  pub all : list ≡ sent ++ left
  pub told : new ≡ old ++ sent

-- where the files refuse or fail, this holds of the sink
abbrev pub IsAloneAt : Stop → Type 0 → Type 0
IsAloneAt (Refused refusal) alone = alone
IsAloneAt Emit alone = Unit {0}
IsAloneAt Files alone = alone
IsAloneAt Memory alone = Unit {0}

-- the answer of a send comes to this, but for a device that failed and want of memory
abbrev pub ComesTo : {A : Type 0} → Outcome → Result A Stop → Type 0
ComesTo o (Ok a) = (o.status ≡ Done) × (o.text ≡ [])
ComesTo o (Err (Refused refusal)) = o ≡ text_outcome (refusal_status refusal) (refusal_line refusal) 0
ComesTo o (Err Emit) = Unit {0}
ComesTo o (Err Files) = Unit {0}
ComesTo o (Err Memory) = Unit {0}

-- these bodies, and then those
abbrev pub behind : List (List ℕ) → Result (List (List ℕ)) Refusal → Result (List (List ℕ)) Refusal
behind bodies (Ok more) = Ok (bodies ++ more)
behind bodies (Err refusal) = Err refusal

-- what stops where this fault of a plan holds
abbrev pub fault_stop : PlanFault → Stop
fault_stop plans.Memory = Memory
fault_stop fault = Refused (refusal_of fault)
