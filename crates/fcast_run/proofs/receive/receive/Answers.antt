use Rattle.std.proofs.Common.{◌≡◌, subst, drop}
use Rattle.std.specs.Prelude.{IfOk}
use Rattle.std.proofs.lemmas.Result.{err_from_is_err_and}
use Rattle.watch_list.specs.Hearing.{Heard}
use Rattle.run_base.specs.Answers.{AfterTaking, LeavesText, LeavesShelf}
use Rattle.run_base.specs.Outcome.{Outcome, Once}
use Rattle.run_base.specs.Tellings.{Tells}
use Rattle.run_base.specs.declared.status.Status.{Status}
use Rattle.fcast_run.specs.declared.take.Gathered.{Gathered}
use Rattle.run_receive.proofs.Public.{outcome_is, told_before}
use Rattle.run_tasks.proofs.Public.{after_taking}
use Rattle.fcast_run.proofs.Gathering.{told_received}
use Rattle.fcast_run.proofs.receive.receive.Goals as goal

pub returns-clause-status : goal.returns-clause-status
returns-clause-status g c = λ told.
    let gathered = c.in_ok-gathered.gathered in
    let is = c.in_ok-gathered.ensures in
    subst (λ (o : Outcome). IfOk c.conclude.result (λ s. s ≡ o.status))
    (outcome_is c.args.settings.now _ _ gathered.receiver gathered.ending _ _ is.tsi is.budget (is.taken told) (is.ending told) c.drops.ensures c.installed.ensures)
    c.conclude.ensures.status

pub returns-clause-text : goal.returns-clause-text
returns-clause-text g c = λ told written.
    let gathered = c.in_ok-gathered.gathered in
    let is = c.in_ok-gathered.ensures in
    subst (λ (o : Outcome). LeavesText Once c.conclude.result o.text (g.T.Text.written c.args.text.now) (g.T.Text.written c.conclude.new.text))
    (outcome_is c.args.settings.now _ _ gathered.receiver gathered.ending _ _ is.tsi is.budget (is.taken told) (is.ending told) c.drops.ensures c.installed.ensures)
    (c.conclude.ensures.text written)

pub returns-clause-shelf : goal.returns-clause-shelf
returns-clause-shelf g c = λ told shelved.
    let gathered = c.in_ok-gathered.gathered in
    let is = c.in_ok-gathered.ensures in
    subst (λ (o : Outcome). LeavesShelf c.conclude.result o.calls (g.S.Shelf.holds c.args.shelf.now) (g.S.Shelf.holds c.conclude.new.shelf))
    (outcome_is c.args.settings.now _ _ gathered.receiver gathered.ending _ _ is.tsi is.budget (is.taken told) (is.ending told) c.drops.ensures c.installed.ensures)
    (c.conclude.ensures.shelf shelved)

pub returns-clause-left : goal.returns-clause-left
returns-clause-left g c = λ told.
    let gathered = c.in_ok-gathered.gathered in
    let is = c.in_ok-gathered.ensures in
    subst (λ (o : Outcome). AfterTaking c.conclude.result (g.D.Datagrams.left c.gather-gathered.new.datagrams ≡ drop o.asked (g.D.Datagrams.left c.args.datagrams.now)))
    (outcome_is c.args.settings.now _ _ gathered.receiver gathered.ending _ _ is.tsi is.budget (is.taken told) (is.ending told) c.drops.ensures c.installed.ensures)
    (after_taking c.conclude.result _ (is.left told))

pub returns-clause-events : goal.returns-clause-events
returns-clause-events g c = λ told.
    let gathered = c.in_ok-gathered.gathered in
    let is = c.in_ok-gathered.ensures in
    subst (λ (o : Outcome). Tells c.conclude.result o.events o.first_events
    (λ events. Heard (λ v. (goal.Watch-dyn g (v.vtable, v.value)).hearing v.value) events c.args.watchers.now.items c.gather-gathered.new.watchers.items))
    (outcome_is c.args.settings.now _ _ gathered.receiver gathered.ending _ _ is.tsi is.budget (is.taken told) (is.ending told) c.drops.ensures c.installed.ensures)
    (told_before c.conclude.result _ _ _ _ _ c.conclude.ensures.blames (is.events told))

pub returns-in_err-gathered-clause-events : goal.returns-in_err-gathered-clause-events
returns-in_err-gathered-clause-events g c = λ told.
    let error = err_from_is_err_and c.from_residual.result c.from_residual.ensures.1 in
    rw (error.1, error.2) (told_received Gathered Status c.in_err-gathered.field-0.0 c.args.settings.now (g.D.Datagrams.left c.args.datagrams.now) (g.D.Datagrams.torn c.args.datagrams.now) _
    (c.in_err-gathered.ensures.events told))
