use Rattle.hub_tests.proofs.tests.running.readers_beside_a_publisher.Given as goal

-- the book of the hub that was just made
abbrev pub ghosts-read_beside : goal.ghosts-read_beside
ghosts-read_beside g a = record { book = a.hub.book }
