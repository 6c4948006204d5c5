use Rattle.std.proofs.Common.{◌∷◌, [], sym, ap}
use Rattle.watch_list.specs.declared.event.Event.TheVariants.{Installed}
use Rattle.watch_list.proofs.Public.{heard_nothing}
use Rattle.run_receive.specs.Events.{announcement}
use Rattle.run_receive.proofs.Public.{heard_as}
use Rattle.fcast_run.proofs.events.tell_installed.Goals as goal

pub returns-in-Some : goal.returns-in-Some
returns-in-Some g c = heard_as
    (λ v. (goal.Watch-dyn g (v.vtable, v.value)).hearing v.value)
    (Installed c.in-Some.number ∷ []) (announcement c.args.another) c.args.watchers.now.items c.tell_all-dropped.new.watchers.items
    (sym (ap announcement c.in-Some.is)) c.tell_all-dropped.ensures.heard

pub returns-in_default : goal.returns-in_default
returns-in_default g c = heard_as
    (λ v. (goal.Watch-dyn g (v.vtable, v.value)).hearing v.value)
    [] (announcement c.args.another) c.args.watchers.now.items c.args.watchers.now.items (sym (ap announcement c.in_default.is))
    (heard_nothing
    (λ v. (goal.Watch-dyn g (v.vtable, v.value)).hearing v.value)
    c.args.watchers.now.items)
