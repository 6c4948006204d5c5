use Rattle.run_receive.proofs.Numbers.{last_installed}
use Rattle.run_receive.proofs.laws.last_published_is_installed.Goals as goal

pub returns : goal.returns
returns c = last_installed
