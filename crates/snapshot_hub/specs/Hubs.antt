-- What contracts see of a hub that has no name yet.
use Rattle.std.specs.Prelude.{ℕ}
use Rattle.logbook.specs.Pages.{Book}

-- for how many readers it is, and the book in which its history stands
pub record Unnamed : Type 0 where
  pub readers : ℕ
  pub book : Book
