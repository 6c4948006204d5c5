-- The ranges of a command's numbers, and of a listening.
use Rattle.std.specs.Prelude.{ℕ, ◌≤◌, ◌<◌, ◌^◌, Option, Some, None}
use Rattle.std.specs.Option.{ForSome}
use Rattle.fcast_words.specs.declared.command.Command.{Command}
use Rattle.fcast_words.specs.declared.command.Command.TheVariants.{Replay, Recv, Send, Dump, Drill, Listen}
use Rattle.run_words.specs.declared.listening.Listening.{Listening}
use Rattle.run_words.specs.declared.task.Task.{Task}
use Rattle.run_words.specs.declared.task.Task.TheVariants as tasks
use Rattle.run_base.specs.Ranges.{IsCount, IsInRange}
use Rattle.run_send.specs.Ranges.{AreParams}

-- so many readers may look on
abbrev pub AreReaders : ℕ → Type 0
AreReaders readers = (1 ≤ readers) × (readers ≤ 16)

abbrev pub IfListening : Option Listening → Type 0
IfListening None = Unit {0}
IfListening (Some l) = IsInRange l.settings × AreReaders l.readers

-- a task's numbers are in their ranges
abbrev pub IsFit : Task → Type 0
IsFit (tasks.Receive settings) = IsInRange settings
IsFit (tasks.Send sending) = AreParams sending.params
IsFit task = Unit {0}

-- ---- the numbers of a command as its words give them

abbrev pub IsPort : ℕ → Type 0
IsPort port = port < 2 ^ 16

pub record AreReceiving (tsi budget : ℕ) : Type 0 where
  pub tsi_to : tsi < 2 ^ 48
  pub least : 4096 ≤ budget
  pub most : budget ≤ 2 ^ 30

pub record AreSending (symbol block maxn cycles tsi : ℕ) : Type 0 where
  pub symbol_from : 8 ≤ symbol
  pub symbol_to : symbol ≤ 65475
  pub block_from : 1 ≤ block
  pub block_to : block ≤ 255
  pub maxn_to : maxn ≤ 255
  pub cycles_from : 1 ≤ cycles
  pub cycles_to : cycles ≤ 1000
  pub tsi_to : tsi < 2 ^ 32

abbrev pub HasNumbers : Command → Type 0
HasNumbers (Replay tsi budget most) = AreReceiving tsi budget × IsCount most
HasNumbers (Recv tsi budget addr port count) = AreReceiving tsi budget × IsPort port × IsCount count
HasNumbers (Send catalog addr port symbol block maxn cycles tsi) = AreSending symbol block maxn cycles tsi × ForSome port IsPort
HasNumbers (Dump most) = Unit {0}
HasNumbers (Drill start) = Unit {0}
HasNumbers (Listen tsi budget most addr port count readers) =
    AreReceiving tsi budget × IsCount most × ForSome port IsPort × ForSome count IsCount × AreReaders readers
