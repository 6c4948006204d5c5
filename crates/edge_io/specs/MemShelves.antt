-- What a shelf in memory holds.
use Rattle.edge_io.specs.Shelved.{Shelved}
use Rattle.edge_io.specs.declared.sure_shelf.SureShelf.{SureShelf}

-- the shelf's fields, as what a shelf holds
abbrev pub shelf_holds : SureShelf → Shelved
shelf_holds s = record { done = s.done; number = s.number; files = s.files.items; accepted = s.accepted }
