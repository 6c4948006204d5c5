use Rattle.std.proofs.Common.{◌≡◌, ◌∙◌, length, sym, ap, arith}
use Rattle.std.specs.Prelude.{option_and_then}
use Rattle.std.proofs.lemmas.List.{length-map}
use Rattle.fcast_words.specs.Table.{options_of}
use Rattle.fcast_words.specs.Words.{command_with}
use Rattle.fcast_words.proofs.Counts.{too_many}
use Rattle.fcast_words.proofs.Shapes.{no_map, options_named}
use Rattle.fcast_words.proofs.read.read_options.Goals as goal

pub returns-then-words-options-clause-usage : goal.returns-then-words-options-clause-usage
returns-then-words-options-clause-usage c usage =
    let count : length (options_of c.args.word) ≡ length c.options_of-options.result.now = simp length-map at (sym (ap length c.options_of-options.ensures)) in
    ap (option_and_then (command_with c.args.word)) (too_many (options_of c.args.word) c.args.words.now (omega (arith, count)))

pub returns-then-not-has_shape-clause-usage : goal.returns-then-not-has_shape-clause-usage
returns-then-not-has_shape-clause-usage c usage =
    ap (option_and_then (command_with c.args.word))
    (no_map (options_of c.args.word) c.args.words.now (options_named c.args.word) (sym c.has_shape.ensures ∙ c.if-not-has_shape.true))
