use Rattle.std.proofs.Common.{◌∷◌, [], ap}
use Rattle.watch_list.specs.declared.event.Event.{Event}
use Rattle.run_receive.specs.Events.{event_of}
use Rattle.run_receive.proofs.Public.{heard_as}
use Rattle.fcast_run.proofs.events.tell_taken.Goals as goal

pub returns : goal.returns
returns g c = heard_as
    (λ v. (goal.Watch-dyn g (v.vtable, v.value)).hearing v.value)
    (c.event_of.result ∷ []) (event_of c.args.taken.now ∷ []) c.args.watchers.now.items c.tell_all-dropped.new.watchers.items
    (ap (λ (e : Event). e ∷ []) c.event_of.ensures) c.tell_all-dropped.ensures.heard
