-- All that is sent is known.
use Rattle.std.proofs.Common.{List, sym, subst}
use Rattle.std.specs.Prelude.{All}
use Rattle.std.specs.List.{flat_map}
use Rattle.sender_plan.specs.Session.{SentInstance, HasObject, objects_of}
use Rattle.sender_schedule.proofs.Objects.{all_known}
use Rattle.sender_schedule.proofs.items.Items.new.Goals as goal

pub returns-clause-known : goal.returns-clause-known
returns-clause-known c =
    let s = c.args.session.now in
    subst (λ (is : List SentInstance). All (HasObject s) (flat_map objects_of is)) (sym c.new.ensures.all) (all_known s c.new.ensures.session)
