use Rattle.hub_tests.proofs.tests.turns.one_never_looks.Given as goal

-- the book of the hub that was just made
abbrev pub ghosts-with_one_that_never_looks : goal.ghosts-with_one_that_never_looks
ghosts-with_one_that_never_looks g a = record { book = a.hub.book }
