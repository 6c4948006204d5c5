-- What a listening that reads its list to its end installs and writes.
use Rattle.std.specs.Prelude.{◌≡◌, ℕ, List, ◌++◌}
use Rattle.edge_io.specs.Shelved.{Shelved}
use Rattle.held_packets.specs.Session.{Session}
use Rattle.run_receive.specs.Events.{published_of}
use Rattle.run_headline.specs.Headline.{InstallsBest}
use Rattle.run_words.specs.declared.listening.Listening.{Listening}
use Rattle.run_readers.specs.ReaderLines.{AreReaderLines}

-- the best instance of the session is installed and reported, and such lines are added behind that
pub record ListensBest (s : Session) (l : Listening) (taken : List (List ℕ)) (shelf shelf' : Shelved) (text text' : List ℕ) : Type 0 where
  pub middle : List ℕ
  pub best : InstallsBest s l.settings taken shelf shelf' text middle
  pub lines : List ℕ
  pub are : AreReaderLines (published_of l.settings.tsi l.settings.budget taken) l.readers lines
  pub behind : text' ≡ middle ++ lines
