use Rattle.meta_text.proofs.LineLaws.{no_feed, lines_join}
use Rattle.meta_text.proofs.laws.lines_make_the_text.Goals as goal

pub returns-clause-none : goal.returns-clause-none
returns-clause-none c text = no_feed text

pub returns-clause-joined : goal.returns-clause-joined
returns-clause-joined c text = lines_join text
