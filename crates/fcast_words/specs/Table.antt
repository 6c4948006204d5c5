-- The table of commands and their options.
use Rattle.std.specs.Prelude.{ℕ, List, [], ◌∷◌, Option, Some, None, if◌then◌else◌, codes}
use Rattle.std.specs.Str.{bytes_eq}
use Rattle.fcast_words.specs.Pairs.{Text}
use Rattle.fcast_words.specs.declared.command_word.CommandWord.{CommandWord}
use Rattle.fcast_words.specs.declared.command_word.CommandWord.TheVariants as word

-- an option with a number: its word, its range, and its value where it isn't given; where there is
-- none, it has to be given
pub record NumberOption : Type 0 where
  pub word : Text
  pub least : ℕ
  pub greatest : ℕ
  pub default : Option ℕ

abbrev pub tsi : NumberOption
tsi = record { word = codes "--tsi"; least = 0; greatest = 281474976710655; default = Some 1 }

abbrev pub budget : NumberOption
budget = record { word = codes "--budget"; least = 4096; greatest = 1073741824; default = Some 67108864 }

abbrev pub most : NumberOption
most = record { word = codes "--most"; least = 1; greatest = 4294967295; default = Some 4294967295 }

abbrev pub port : NumberOption
port = record { word = codes "--port"; least = 1; greatest = 65535; default = None }

abbrev pub count : NumberOption
count = record { word = codes "--count"; least = 1; greatest = 4294967295; default = None }

abbrev pub readers : NumberOption
readers = record { word = codes "--readers"; least = 1; greatest = 16; default = Some 1 }

abbrev pub symbol : NumberOption
symbol = record { word = codes "--symbol"; least = 8; greatest = 65475; default = Some 1024 }

abbrev pub block : NumberOption
block = record { word = codes "--block"; least = 1; greatest = 255; default = Some 64 }

abbrev pub maxn : NumberOption
maxn = record { word = codes "--maxn"; least = 1; greatest = 255; default = Some 128 }

abbrev pub cycles : NumberOption
cycles = record { word = codes "--cycles"; least = 1; greatest = 1000; default = Some 1 }

abbrev pub sent_tsi : NumberOption
sent_tsi = record { word = codes "--tsi"; least = 0; greatest = 4294967295; default = Some 1 }

abbrev pub start : NumberOption
start = record { word = codes "--start"; least = 0; greatest = 18446744073709551615; default = None }

-- an option with an address
abbrev pub addr : Text
addr = codes "--addr"

-- an option with a name, which is any value
abbrev pub catalog : Text
catalog = codes "--catalog"

-- the command that a first word names
abbrev pub command_named : Text → Option CommandWord
command_named name =
    if bytes_eq name (codes "replay") then Some word.Replay
    else if bytes_eq name (codes "recv") then Some word.Recv
    else if bytes_eq name (codes "send") then Some word.Send
    else if bytes_eq name (codes "dump") then Some word.Dump
    else if bytes_eq name (codes "drill") then Some word.Drill
    else if bytes_eq name (codes "listen") then Some word.Listen
    else None

-- the options of a command
abbrev pub options_of : CommandWord → List Text
options_of word.Replay = tsi.word ∷ budget.word ∷ most.word ∷ []
options_of word.Recv = tsi.word ∷ budget.word ∷ addr ∷ port.word ∷ count.word ∷ []
options_of word.Send =
    catalog ∷ addr ∷ port.word ∷ symbol.word ∷ block.word ∷ maxn.word ∷ cycles.word ∷ sent_tsi.word ∷ []
options_of word.Dump = most.word ∷ []
options_of word.Drill = start.word ∷ []
options_of word.Listen =
    tsi.word ∷ budget.word ∷ most.word ∷ addr ∷ port.word ∷ count.word ∷ readers.word ∷ []
