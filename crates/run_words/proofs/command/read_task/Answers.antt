use Rattle.std.proofs.Common.{sym, subst}
use Rattle.run_words.specs.Ranges.{IsFit}
use Rattle.run_words.proofs.Ranges.{fit_of, has_numbers}
use Rattle.run_words.proofs.command.read_task.Goals as goal

pub returns-in-Ok-clause-fit : goal.returns-in-Ok-clause-fit
returns-in-Ok-clause-fit c = subst IsFit (sym c.task_of.ensures) (fit_of _ (has_numbers c.args.words.now _ c.in-Ok.ensures.ok))
