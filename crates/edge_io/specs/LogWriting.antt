-- A log that is being written.
use Rattle.std.specs.Prelude.{◌≡◌, ℕ, Bool, true, false, List, []}
use Rattle.edge_io.specs.Log.{magic, IsLog, datagrams_of}

-- what stands in front of the next item: the magic, as long as it isn't written
abbrev pub magic_due : Bool → List ℕ
magic_due false = magic
magic_due true = []

-- what was written can be told: nothing until the magic is written, and a log from then on
abbrev pub IsInOrder : Bool → List ℕ → Type 0
IsInOrder false text = text ≡ []
IsInOrder true text = (ds : List (List ℕ)) × IsLog text ds

-- the datagrams that were sent: none until the magic is written, and those of the log from then on
abbrev pub sent_on : Bool → List ℕ → List (List ℕ)
sent_on false text = []
sent_on true text = datagrams_of text
