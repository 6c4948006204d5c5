use Rattle.meta_text.proofs.LineLaws.{trimmed_between}
use Rattle.meta_text.proofs.laws.trimmed_between_blanks.Goals as goal

pub returns : goal.returns
returns c text = trimmed_between text
