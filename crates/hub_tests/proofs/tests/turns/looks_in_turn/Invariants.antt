use Rattle.hub_tests.proofs.tests.turns.looks_in_turn.Given as goal

-- the book of the hub that was just made
abbrev pub ghosts-with_one_reader : goal.ghosts-with_one_reader
ghosts-with_one_reader g a = record { book = a.hub.book }
