use Rattle.std.proofs.Common.{◌≡◌, refl}
use Rattle.std.specs.Prelude.{◌⊎◌, Ok, Err}
use Rattle.run_tasks.specs.Tasks.{uses}
use Rattle.run_words.specs.Commands.{task_for}
use Rattle.sure_runs.proofs.Unfailed.{never_rose, no_place, no_part, are_told, isn't}
use Rattle.sure_runs.proofs.sure_run.run_surely.Goals as goal

-- no part of the outside failed, whatever the task uses
pub returns-clause-completes : goal.returns-clause-completes
returns-clause-completes c =
    let u = uses (task_for c.args.words.now) in
    c.run.ensures.completes (are_told u.datagrams u.files) (record {
      datagrams = no_place u.datagrams;
      text = never_rose;
      emit = no_place u.emit;
      shelf = no_part u.shelf;
      files = no_part u.files;
    })

pub returns-clause-datagrams : goal.returns-clause-datagrams
returns-clause-datagrams c = isn't _ 4 _ (returns-clause-completes c) refl

pub returns-clause-texts : goal.returns-clause-texts
returns-clause-texts c = isn't _ 5 _ (returns-clause-completes c) refl

pub returns-clause-shelf : goal.returns-clause-shelf
returns-clause-shelf c = isn't _ 6 _ (returns-clause-completes c) refl

pub returns-clause-files : goal.returns-clause-files
returns-clause-files c = isn't _ 12 _ (returns-clause-completes c) refl
