-- The next object can be sent, and those behind it are known.
use Rattle.std.proofs.Common.{suc, ◌∷◌, subst, arith, rules}
use Rattle.std.specs.Prelude.{All}
use Rattle.sender_plan.specs.Session.{HasObject}
use Rattle.sender_schedule.proofs.Objects.{can_be_sent}
use Rattle.sender_schedule.proofs.schedule.open.Goals as goal

all_left : (c : goal.After-first) → All (HasObject c.args.session.now) (c.in_ok-toi.toi ∷ c.next.new.self)
all_left c = subst (All (HasObject c.args.session.now)) c.in_ok-toi.ensures c.requires

pub returns-clause-due : goal.returns-clause-due
returns-clause-due c = (
  can_be_sent c.args.session.now c.in_ok-toi.toi c.object-object.result.now c.object-object.ensures.session
      (all_left c 0 0 (omega arith)) c.object-object.ensures.value,
  search rules,
)

pub returns-clause-known : goal.returns-clause-known
returns-clause-known c k d less = all_left c (suc k) d (omega arith)
