-- The command that words are.
use Rattle.std.specs.Prelude.{ℕ, List, [], ◌∷◌, Option, Some, None, option_and_then, option_map}
use Rattle.fcast_words.specs.Numbers.{number_or, number_in}
use Rattle.fcast_words.specs.Addresses.{address_of}
use Rattle.fcast_words.specs.Pairs.{Text, Pairs, map_of, given}
use Rattle.fcast_words.specs.Table as table
use Rattle.fcast_words.specs.Table.{NumberOption, command_named, options_of}
use Rattle.fcast_words.specs.declared.command.Command.{Command}
use Rattle.fcast_words.specs.declared.command.Command.TheVariants.{Replay, Recv, Send, Dump, Drill}
use Rattle.fcast_words.specs.declared.command.Command.TheVariants.{Listen}
use Rattle.fcast_words.specs.declared.command_word.CommandWord.{CommandWord}
use Rattle.fcast_words.specs.declared.command_word.CommandWord.TheVariants as word

-- the number of an option: what it is given, or its default
abbrev pub value_of : NumberOption → Pairs → Option ℕ
value_of option ps = number_or option.least option.greatest option.default (given option.word ps)

abbrev pub port_of : Text → Option ℕ
port_of = number_in table.port.least table.port.greatest

abbrev pub count_of : Text → Option ℕ
count_of = number_in table.count.least table.count.greatest

-- an address and a port, both given or neither
abbrev pub place_of : Option Text → Option Text → Option (Option (List ℕ) × Option ℕ)
place_of None None = Some (None, None)
place_of (Some a) (Some p) =
    option_and_then (λ addr. option_map (λ port. (Some addr, Some port)) (port_of p)) (address_of a)
place_of _ _ = None

-- an address, a port and a count, all three given or none
abbrev pub source_of : Option Text → Option Text → Option Text
    → Option (Option (List ℕ) × Option ℕ × Option ℕ)
source_of None None None = Some (None, None, None)
source_of (Some a) (Some p) (Some c) =
    option_and_then (λ addr. option_and_then (λ port.
    option_map (λ count. (Some addr, Some port, Some count)) (count_of c)) (port_of p)) (address_of a)
source_of _ _ _ = None

abbrev pub replay_of : Pairs → Option Command
replay_of ps =
    option_and_then (λ tsi. option_and_then (λ budget. option_map (λ most.
    Replay tsi budget most)
    (value_of table.most ps)) (value_of table.budget ps)) (value_of table.tsi ps)

abbrev pub recv_of : Pairs → Option Command
recv_of ps =
    option_and_then (λ tsi. option_and_then (λ budget. option_and_then (λ addr. option_and_then (λ port.
    option_map (λ count. Recv tsi budget addr port count)
    (value_of table.count ps)) (value_of table.port ps)) (option_and_then address_of (given table.addr ps)))
    (value_of table.budget ps)) (value_of table.tsi ps)

abbrev pub send_of : Pairs → Option Command
send_of ps =
    option_and_then (λ catalog. option_and_then (λ place. option_and_then (λ symbol. option_and_then (λ block.
    option_and_then (λ maxn. option_and_then (λ cycles. option_map (λ tsi.
    Send catalog place.0 place.1 symbol block maxn cycles tsi)
    (value_of table.sent_tsi ps)) (value_of table.cycles ps)) (value_of table.maxn ps))
    (value_of table.block ps)) (value_of table.symbol ps))
    (place_of (given table.addr ps) (given table.port.word ps))) (given table.catalog ps)

abbrev pub dump_of : Pairs → Option Command
dump_of ps = option_map (λ most. Dump most) (value_of table.most ps)

abbrev pub drill_of : Pairs → Option Command
drill_of ps = option_map (λ start. Drill start) (value_of table.start ps)

abbrev pub listen_of : Pairs → Option Command
listen_of ps =
    option_and_then (λ tsi. option_and_then (λ budget. option_and_then (λ most. option_and_then (λ source.
    option_map (λ readers. Listen tsi budget most source.0 source.1 source.2 readers)
    (value_of table.readers ps))
    (source_of (given table.addr ps) (given table.port.word ps) (given table.count.word ps)))
    (value_of table.most ps)) (value_of table.budget ps)) (value_of table.tsi ps)

-- the command of this name with these values
abbrev pub command_with : CommandWord → Pairs → Option Command
command_with word.Replay ps = replay_of ps
command_with word.Recv ps = recv_of ps
command_with word.Send ps = send_of ps
command_with word.Dump ps = dump_of ps
command_with word.Drill ps = drill_of ps
command_with word.Listen ps = listen_of ps

-- the command that the words are: the first word names it, and the others are a map from its
-- options to values, each value in its option's range
abbrev pub command_of : List Text → Option Command
command_of [] = None
command_of (name ∷ words) = option_and_then
    (λ word. option_and_then (command_with word) (map_of (options_of word) words)) (command_named name)
