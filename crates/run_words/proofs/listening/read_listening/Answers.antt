use Rattle.std.proofs.Common.{◌∙◌, sym, ap, subst}
use Rattle.std.specs.Prelude.{option_and_then}
use Rattle.run_words.specs.Commands.{listening_in}
use Rattle.run_words.specs.Ranges.{IfListening}
use Rattle.run_words.proofs.Ranges.{listening_in_range}
use Rattle.run_words.proofs.listening.read_listening.Goals as goal

pub returns-in-Ok-clause-ranges : goal.returns-in-Ok-clause-ranges
returns-in-Ok-clause-ranges c =
    subst IfListening (ap (option_and_then listening_in) c.in-Ok.ensures.ok ∙ sym c.listening_in.ensures) (listening_in_range c.args.words.now)
