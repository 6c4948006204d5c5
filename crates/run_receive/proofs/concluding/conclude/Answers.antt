use Rattle.std.proofs.Common.{◌≡◌, true, ◌∙◌, sym, ap}
use Rattle.std.specs.Prelude.{Ok}
use Rattle.run_base.specs.Statuses.{leaves_shelf}
use Rattle.run_receive.proofs.ReportLast.{shelf_then_text, left_then_text}
use Rattle.run_receive.proofs.Statuses.{no_calls}
use Rattle.run_receive.proofs.concluding.conclude.Goals as goal

pub returns-clause-shelf : goal.returns-clause-shelf
returns-clause-shelf g c = λ told. shelf_then_text c.tell.result _ _ _ _ c.tell.ensures.blames (c.in_ok-shelve.ensures.shelf told)

pub returns-clause-apart : goal.returns-clause-apart
returns-clause-apart g c = λ (leaves : leaves_shelf c.tell.result ≡ true).
    let status = left_then_text c.tell.result _ c.base_status-status.result c.tell.ensures.blames c.tell.ensures.status leaves in
    c.in_ok-shelve.ensures.apart (no_calls c.args.ending c.args.drops _ (ap (λ s. leaves_shelf (Ok s)) (sym c.base_status-status.ensures) ∙ status))
