use Rattle.std.proofs.Common.{◌∙◌, refl, sym, Some, None}
use Rattle.watch_list.proofs.Public.{heard_nothing}
use Rattle.run_tasks.proofs.Public.{for_listening, listening_at_memory, usage_ends}
use Rattle.fcast_run.proofs.listen.attempt.Goals as goal

pub returns-in_err-listening : goal.returns-in_err-listening
returns-in_err-listening g c =
    listening_at_memory g.D.Datagrams g.E.Emit g.F.Files g.S.Shelf g.T.Text _ c.args.edge.now _ _ c.from_residual.result c.from_residual.ensures.1
    (heard_nothing (λ v. (goal.Watch-dyn g (v.vtable, v.value)).hearing v.value) c.args.watchers.now.items) refl

pub returns-in_default : goal.returns-in_default
returns-in_default g c = for_listening g.D.Datagrams g.E.Emit g.F.Files g.S.Shelf g.T.Text None _ _ _ _ _ _ (sym c.in_default.is ∙ c.in_ok-listening.ensures.is)
    (usage_ends g.D.Datagrams g.E.Emit g.F.Files g.S.Shelf g.T.Text c.args.edge.now _ _ _ c.tell_usage.result c.tell_usage.ensures.status c.tell_usage.ensures.text c.tell_usage.ensures.blames refl)

pub returns : goal.returns
returns g c = for_listening g.D.Datagrams g.E.Emit g.F.Files g.S.Shelf g.T.Text (Some c.in-Some.listening) _ _ _ _ _ _ (sym c.in-Some.is ∙ c.in_ok-listening.ensures.is) (record {
  table = c.receive_beside.ensures.table;
  status = c.receive_beside.ensures.status;
  blames = c.receive_beside.ensures.blames;
  text = c.receive_beside.ensures.text;
  unwritten = c.receive_beside.ensures.unwritten;
  datagrams = record { connected = c.receive_beside.ensures.place; left = c.receive_beside.ensures.left };
  emit = refl;
  files = refl;
  shelf = c.receive_beside.ensures.shelf;
  apart = c.receive_beside.ensures.apart;
  watchers = c.receive_beside.ensures.events;
})
