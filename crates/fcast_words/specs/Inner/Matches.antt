-- What `clap` found, as pairs of options and values.
use Rattle.std.specs.Prelude.{◌≡◌, List, map, Some}
use Rattle.clap.specs.Matches.{first_value, found_of}
use Rattle.clap.specs.declared.parser.matches.ArgMatches.{ArgMatches}
use Rattle.fcast_words.specs.Pairs.{Text, Pairs, map_of, given}
use Rattle.fcast_words.specs.Inner.Parser.{dashed}

-- each option has the value that the pairs give it
abbrev pub HasAll : Pairs → ArgMatches → Type 0
HasAll ps m = (n : Text) → first_value (found_of m) n ≡ given (dashed n) ps

-- the words are a map from these options, and its values were found
abbrev pub HasValues : List Text → List Text → ArgMatches → Type 0
HasValues options words m = (ps : Pairs) × (map_of (map dashed options) words ≡ Some ps) × HasAll ps m
