use Rattle.snapshot_hub.proofs.Rising.{height_grows}
use Rattle.snapshot_hub.proofs.Known.{look_goes_on, look_rises}
use Rattle.snapshot_hub.proofs.laws.looks_never_fall.Goals as goal

pub returns-clause-prefix : goal.returns-clause-prefix
returns-clause-prefix c = look_goes_on

pub returns-clause-number : goal.returns-clause-number
returns-clause-number c readers r steps s h may known =
    height_grows h s (look_goes_on readers r steps s h may known) (look_rises readers r steps s may)

pub returns-clause-rising : goal.returns-clause-rising
returns-clause-rising c = look_rises
