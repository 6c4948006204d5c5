use Rattle.run_receive.specs.Events.{published}
use Rattle.run_receive.proofs.Public.{published_rising}
use Rattle.run_readers.proofs.Noted.{none_above}
use Rattle.run_readers.proofs.laws.no_number_is_above_the_last.Goals as goal

pub returns : goal.returns
returns g c left bytes readers text lines = none_above (published c left) lines.saw (published_rising c left bytes) lines.known
