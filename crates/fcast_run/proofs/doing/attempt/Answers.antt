use Rattle.std.proofs.Common.{refl}
use Rattle.watch_list.proofs.Public.{heard_nothing}
use Rattle.run_tasks.proofs.Public.{for_task, task_at_memory}
use Rattle.fcast_run.proofs.doing.attempt.Goals as goal

pub returns-in_err-task : goal.returns-in_err-task
returns-in_err-task g c =
    task_at_memory g.D.Datagrams g.E.Emit g.F.Files g.S.Shelf g.T.Text _ c.args.edge.now _ _ c.from_residual.result c.from_residual.ensures.1
    (heard_nothing (λ v. (goal.Watch-dyn g (v.vtable, v.value)).hearing v.value) c.args.watchers.now.items) refl

pub returns : goal.returns
returns g c = for_task g.D.Datagrams g.E.Emit g.F.Files g.S.Shelf g.T.Text c.in_ok-task.task _ _ _ _ _ _ c.in_ok-task.ensures.task c.do_task.ensures
