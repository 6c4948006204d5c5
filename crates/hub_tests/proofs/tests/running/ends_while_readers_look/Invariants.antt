use Rattle.hub_tests.proofs.tests.running.ends_while_readers_look.Given as goal

-- the book of the hub that was just made
abbrev pub ghosts-end_beside : goal.ghosts-end_beside
ghosts-end_beside g a = record { book = a.hub.book }
