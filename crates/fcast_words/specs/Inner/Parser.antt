-- The parser of a command, as `clap` describes it.
use Rattle.std.specs.Prelude.{List, ◌∷◌, map, Some, true}
use Rattle.clap.specs.Walk.{Rule}
use Rattle.clap.specs.Simple.{App, new_rule, new_app}
use Rattle.clap.specs.declared.builder.action.ArgAction.TheVariants.{Set}
use Rattle.fcast_words.specs.Pairs.{Text}

-- a name behind two dashes
abbrev pub dashed : Text → Text
dashed name = 45 ∷ 45 ∷ name

-- an option with one value
abbrev pub option_rule : Text → Rule
option_rule name = record (new_rule name) { long = Some name; action = Some Set }

-- a command with these options and nothing else
abbrev pub options_app : Text → List Text → App
options_app name names = record (new_app name) {
  top = record (new_app name).top { no_binary_name = true; disable_help_flag = true; rules = map option_rule names };
}
