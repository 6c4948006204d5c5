-- The commands that are done: five of them by `run`, and `listen` by `run_listen`.
use Rattle.std.specs.Prelude.{ℕ, List, Option, Some, None, option_and_then, option_map, unwrap_or}
use Rattle.fcast_words.specs.Words.{command_of}
use Rattle.fcast_words.specs.declared.command.Command.{Command}
use Rattle.fcast_words.specs.declared.command.Command.TheVariants.{Replay, Recv, Send, Dump, Drill, Listen}
use Rattle.edge_io.specs.declared.place.Place.{Place}
use Rattle.edge_io.specs.declared.place.Place.TheVariants.{Log, Udp}
use Rattle.run_base.specs.declared.bound.Bound.TheVariants.{Most, Count}
use Rattle.run_words.specs.declared.listening.Listening.{Listening}
use Rattle.run_base.specs.declared.settings.Settings.{Settings}
use Rattle.run_words.specs.declared.task.Task.{Task}
use Rattle.run_words.specs.declared.task.Task.TheVariants as tasks

-- where the datagrams of a send go: without an address they are a log
abbrev pub place_of : Option (List ℕ) → Option ℕ → Option Place
place_of None None = Some Log
place_of (Some addr) (Some port) = Some (Udp addr port)
place_of addr port = None

-- what a send is told
abbrev pub sending_of : List ℕ → ℕ → ℕ → ℕ → ℕ → ℕ → Place → Task
sending_of catalog symbol block maxn cycles tsi place =
    tasks.Send (record {
      catalog = catalog;
      place = place;
      params = record { tsi = tsi; symbol = symbol; max_block = block; max_n = maxn; cycles = cycles };
    })

-- what a command of `run` is to do; the usage line is told of any other
abbrev pub task_of : Command → Task
task_of (Replay tsi budget most) = tasks.Receive (record { tsi = tsi; budget = budget; place = Log; bound = Most most })
task_of (Recv tsi budget addr port count) = tasks.Receive (record { tsi = tsi; budget = budget; place = Udp addr port; bound = Count count })
task_of (Send catalog addr port symbol block maxn cycles tsi) =
    unwrap_or (option_map (sending_of catalog symbol block maxn cycles tsi) (place_of addr port)) tasks.Usage
task_of (Dump most) = tasks.Dump most
task_of (Drill start) = tasks.Drill start
task_of command = tasks.Usage

-- what the words are to do: the usage line is told of words that are no command
abbrev pub task_for : List (List ℕ) → Task
task_for words = unwrap_or (option_map task_of (command_of words)) tasks.Usage

-- ---- listen

-- without an address, a port and a count a listening is a replay, and with all three it receives over UDP
abbrev pub listened : ℕ → ℕ → ℕ → Option (List ℕ) → Option ℕ → Option ℕ → Option Settings
listened tsi budget most None None None = Some (record { tsi = tsi; budget = budget; place = Log; bound = Most most })
listened tsi budget most (Some addr) (Some port) (Some count) =
    Some (record { tsi = tsi; budget = budget; place = Udp addr port; bound = Count count })
listened tsi budget most addr port count = None

abbrev pub listening_in : Command → Option Listening
listening_in (Listen tsi budget most addr port count readers) =
    option_map (λ settings. record { settings = settings; readers = readers }) (listened tsi budget most addr port count)
listening_in command = None

-- the listening that the words are, where they are one
abbrev pub listening_of : List (List ℕ) → Option Listening
listening_of words = option_and_then listening_in (command_of words)
