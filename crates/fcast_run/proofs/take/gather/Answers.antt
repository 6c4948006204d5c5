use Rattle.std.proofs.Common.{◌∙◌, ap, take}
use Rattle.std.proofs.lemmas.Result.{err_from_is_err_and}
use Rattle.receiver_core.specs.Receiver.{Receiver}
use Rattle.fcast_run.proofs.Gathering.{told_of}
use Rattle.run_base.specs.Bounds.{limit}
use Rattle.run_base.specs.declared.ending.Ending.{Ending}
use Rattle.fcast_run.specs.declared.take.Gathered.{Gathered}
use Rattle.run_receive.specs.Events.{events_of}
use Rattle.run_receive.proofs.Public.{heard_as, no_event_heard, no_datagram_heard, told_at_memory, fresh}
use Rattle.fcast_run.proofs.take.gather.Goals as goal

pub take_all-requires-clause-fresh : goal.take_all-requires-clause-fresh
take_all-requires-clause-fresh g c = fresh _ _ _ c.in_ok-receiver.ensures

pub returns-in_err-buffer-clause-events : goal.returns-in_err-buffer-clause-events
returns-in_err-buffer-clause-events g c = λ told.
    let settings = c.args.settings.now in
    let left = g.D.Datagrams.left c.args.datagrams.now in
    told_at_memory c.from_residual.result (events_of settings.tsi settings.budget (take (limit settings.bound) left))
    (λ n. events_of settings.tsi settings.budget (take n left)) _ c.from_residual.ensures.1 (no_event_heard
    (λ v. (goal.Watch-dyn g (v.vtable, v.value)).hearing v.value)
    (events_of settings.tsi settings.budget (take (limit settings.bound) left)) c.args.watchers.now.items)

pub returns-in_err-receiver-clause-events : goal.returns-in_err-receiver-clause-events
returns-in_err-receiver-clause-events g c = λ told.
    let settings = c.args.settings.now in
    let left = g.D.Datagrams.left c.args.datagrams.now in
    told_at_memory c.from_residual-in_err-receiver.result (events_of settings.tsi settings.budget (take (limit settings.bound) left))
    (λ n. events_of settings.tsi settings.budget (take n left)) _ c.from_residual-in_err-receiver.ensures.1 (no_event_heard
    (λ v. (goal.Watch-dyn g (v.vtable, v.value)).hearing v.value)
    (events_of settings.tsi settings.budget (take (limit settings.bound) left)) c.args.watchers.now.items)

pub returns-in_default-clause-events : goal.returns-in_default-clause-events
returns-in_default-clause-events g c = λ told. no_datagram_heard
    (λ v. (goal.Watch-dyn g (v.vtable, v.value)).hearing v.value)
    c.args.settings.now.tsi c.args.settings.now.budget (g.D.Datagrams.left c.args.datagrams.now) c.args.watchers.now.items

pub returns-clause-events : goal.returns-clause-events
returns-clause-events g c = λ told.
    let settings = c.args.settings.now in
    let connected = c.in-Ok.ensures in
    let receiver = c.in_ok-receiver.receiver in
    let left = g.D.Datagrams.left c.connect.new.self in
    heard_as
    (λ v. (goal.Watch-dyn g (v.vtable, v.value)).hearing v.value)
    (events_of receiver.tsi receiver.budget (take (limit settings.bound) left))
    (events_of settings.tsi settings.budget (take (limit settings.bound) (g.D.Datagrams.left c.args.datagrams.now)))
    c.args.watchers.now.items c.take_all.new.watchers.items
    (ap (λ (r : Receiver). events_of r.tsi r.budget (take (limit settings.bound) left)) c.in_ok-receiver.ensures
    ∙ ap (λ l. events_of settings.tsi settings.budget (take (limit settings.bound) l)) (connected.left told))
    (c.in_ok-ending.ensures.events (connected.told told))

pub returns-in_err-ending-clause-events : goal.returns-in_err-ending-clause-events
returns-in_err-ending-clause-events g c = λ told.
    let connected = c.in-Ok.ensures in
    let receiver = c.in_ok-receiver.receiver in
    let error = err_from_is_err_and c.from_residual-in_err-ending.result c.from_residual-in_err-ending.ensures.1 in
    rw (error.1, error.2) (told_of Ending Gathered c.in_err-ending.field-0.0 receiver c.args.settings.now.tsi c.args.settings.now.budget (limit c.args.settings.now.bound)
    (g.D.Datagrams.left c.args.datagrams.now) (g.D.Datagrams.left c.connect.new.self) _
    (ap (λ (r : Receiver). r.tsi) c.in_ok-receiver.ensures) (ap (λ (r : Receiver). r.budget) c.in_ok-receiver.ensures) (connected.left told)
    (c.in_err-ending.ensures.events (connected.told told)))
