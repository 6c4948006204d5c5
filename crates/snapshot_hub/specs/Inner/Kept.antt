-- The rule of the book in which a hub's history stands, and what its steps tell.
use Rattle.std.specs.Prelude.{ℕ, ◌≡◌, ◌==◌, true, List, [], ◌∷◌, ◌++◌, length, MatchBool}
use mathlib.Core.List.{IsPrefix}
use Rattle.logbook.specs.Pages.{Cell, Step, View, Book, Named}
use Rattle.carousel_cid.specs.Instances.{Shown}
use Rattle.snapshot_hub.specs.Histories.{IsRising}

-- the first word is the length of the history, in which numbers never fall; a book has two words, and the second stays 0
pub record IsKept (cells : List Cell) (log : List Shown) : Type 0 where
  pub words : cells ≡ (length log, true) ∷ (0, true) ∷ []
  pub rising : IsRising log

abbrev pub count_of : Book → Named
count_of b = record { tracked = true; key = 0; book = b }

-- the instance was added to all that had been seen; or the history was longer, and was seen
abbrev pub Adds : Step Shown → View Shown ℕ → ℕ → View Shown ℕ → Type 0
Adds s v found w = MatchBool (found == s.old) ((w.0 ≡ v.0 ++ s.ask ∷ []) × IsRising w.0) ((length w.0 ≡ found) × IsRising w.0)

-- the history so far was seen, and its length found
abbrev pub Finds : Step Shown → View Shown ℕ → ℕ → View Shown ℕ → Type 0
Finds s v found w = length w.0 ≡ found

-- both begin one history, in which numbers never fall
pub record BeginOne (h t : List Shown) : Type 0 where
  pub all : List Shown
  pub rising : IsRising all
  pub this : IsPrefix h all
  pub that : IsPrefix t all
