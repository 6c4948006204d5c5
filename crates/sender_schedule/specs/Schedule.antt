-- All that a sender sends, as one list of datagrams.
use Rattle.std.specs.Prelude.{ℕ, List, [], Option, Some, None, map, replicate}
use Rattle.std.specs.List.{flat_map}
use Rattle.sender_plan.specs.Session.{Session, SentObject, SentInstance, objects_of, object_of}
use Rattle.sender_schedule.specs.SymbolIds.{symbol_ids}
use Rattle.sender_schedule.specs.Datagram.{datagram}

-- the instances in order, each as many times as it is sent
abbrev pub all_cycles : ℕ → List SentInstance → List SentInstance
all_cycles cycles instances = flat_map (replicate cycles) instances

-- the datagrams of an object: those of its symbols in order
abbrev pub datagrams_of : ℕ → Option SentObject → List (List ℕ)
datagrams_of tsi None = []
datagrams_of tsi (Some o) = map (datagram tsi o) (symbol_ids o.oti)

abbrev pub object_datagrams : Session → ℕ → List (List ℕ)
object_datagrams s toi = datagrams_of s.tsi (object_of s toi)

-- a cycle of an instance: the datagrams of its descriptor, and then those of each object that this lists
abbrev pub cycle_datagrams : Session → SentInstance → List (List ℕ)
cycle_datagrams s i = flat_map (object_datagrams s) (objects_of i)

-- the cycles of each instance, one after the other
abbrev pub schedule : Session → List (List ℕ)
schedule s = flat_map (cycle_datagrams s) (all_cycles s.cycles s.instances)
