use Rattle.run_tasks.proofs.Public.{headline_of}
use Rattle.run_tasks.proofs.Public.{completes_of}
use Rattle.fcast_run.proofs.top_call.run.Goals as goal

pub returns-clause-headline : goal.returns-clause-headline
returns-clause-headline g c =
    headline_of g.D.Datagrams g.E.Emit g.F.Files g.S.Shelf g.T.Text _ c.args.edge.now _ _ _ c.attempt.result c.number.result c.number.ensures c.attempt.ensures

pub returns-clause-completes : goal.returns-clause-completes
returns-clause-completes g c =
    completes_of g.D.Datagrams g.E.Emit g.F.Files g.S.Shelf g.T.Text _ _ _ c.args.edge.now _ _ _ _ c.attempt.result c.number.result c.number.ensures c.attempt.ensures
