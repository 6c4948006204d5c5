use Rattle.snapshot_hub.proofs.Rising.{newer_longer}
use Rattle.snapshot_hub.proofs.laws.newer_is_longer.Goals as goal

pub returns : goal.returns
returns c = newer_longer
