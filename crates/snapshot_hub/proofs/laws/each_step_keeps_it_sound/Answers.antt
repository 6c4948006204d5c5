use Rattle.snapshot_hub.proofs.Sound.{step_keeps_sound}
use Rattle.snapshot_hub.proofs.laws.each_step_keeps_it_sound.Goals as goal

pub returns : goal.returns
returns c = step_keeps_sound
