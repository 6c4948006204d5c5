use Rattle.hub_tests.proofs.tests.turns.told_what_it_can_not_enter.Given as goal

-- the book of the hub that was just made
abbrev pub ghosts-tell_and_end : goal.ghosts-tell_and_end
ghosts-tell_and_end g a = record { book = a.hub.book }
