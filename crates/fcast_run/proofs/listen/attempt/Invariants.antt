use Rattle.fcast_run.proofs.listen.attempt.Given as goal

-- the book of the hub that was just made
abbrev pub ghosts-receive_beside : goal.ghosts-receive_beside
ghosts-receive_beside g a = record { book = a.hub.book }
