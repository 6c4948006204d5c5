use Rattle.snapshot_hub.specs.Machine.{opened}
use Rattle.snapshot_hub.proofs.Sound.{opened_is_sound, runs_keep_sound}
use Rattle.snapshot_hub.proofs.laws.always_sound.Goals as goal

pub returns : goal.returns
returns c readers steps n run = runs_keep_sound steps (opened readers) n (opened_is_sound readers) run
