use Rattle.meta_text.proofs.Sound.{never_memory}
use Rattle.meta_text.proofs.laws.never_memory.Goals as goal

pub returns : goal.returns
returns c text = never_memory text
