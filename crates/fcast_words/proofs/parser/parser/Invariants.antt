use Rattle.std.proofs.Common.{◌≡◌, map, take}
use Rattle.clap.specs.Simple.{app_of}
use Rattle.fcast_words.specs.Inner.Parser.{options_app}
use Rattle.fcast_words.proofs.parser.parser.Given as goal

abbrev pub invariant-loop-option : goal.invariant-loop-option
invariant-loop-option l = app_of l.parser ≡ options_app l.fn.name (map (λ s. s.now) (take l.option-index l.fn.options))
