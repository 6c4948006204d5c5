use Rattle.std.proofs.Common.{map}
use Rattle.clap.specs.Simple.{app_of}
use Rattle.clap.specs.Values.{kind_of}
use Rattle.fcast_words.proofs.Readings.{no_values, values_read}
use Rattle.fcast_words.proofs.pairs.read_pairs.Goals as goal

pub returns-in-Ok-try_get_matches_from-clause-ok : goal.returns-in-Ok-try_get_matches_from-clause-ok
returns-in-Ok-try_get_matches_from-clause-ok c =
    let parse = c.in-Ok-try_get_matches_from in
    values_read c.args.name.now (map (λ s. s.now) c.args.options.now) (map (λ s. s.now) c.args.words.now) (app_of c.in-Ok.parser) c.in-Ok.ensures parse.matches
    c.requires parse.ensures.kinds parse.ensures.matches

pub returns-in-Err-clause-usage : goal.returns-in-Err-clause-usage
returns-in-Err-clause-usage c usage =
    no_values c.args.name.now (map (λ s. s.now) c.args.options.now) (map (λ s. s.now) c.args.words.now) (app_of c.in-Ok.parser) c.in-Ok.ensures (kind_of c.in-Err.error)
    c.requires c.in-Err.ensures.kinds (c.fault_of.ensures usage)
