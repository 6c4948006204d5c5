use Rattle.std.proofs.Common.{◌∙◌}
use Rattle.clap.specs.Simple.{app_of}
use Rattle.fcast_words.proofs.Parsers.{option_added}
use Rattle.fcast_words.proofs.parser.parser.Goals as goal

pub loop-option-preserved : goal.loop-option-preserved
loop-option-preserved c =
    c.in_ok-parser.ensures ∙ option_added (app_of c.loop-option.parser) c.args.name.now
    c.args.options.now c.loop-option.option-index _ c.loop-option-test.true c.loop-option.invariant
