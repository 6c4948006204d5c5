use Rattle.std.proofs.Common.{◌≡◌, [], replicate}
use Rattle.snapshot_hub.proofs.hub.looks.Given as goal

-- as many looks as were asked for so far, which have seen nothing
abbrev pub invariant-loop-reader : goal.invariant-loop-reader
invariant-loop-reader g l = l.looks.items ≡ replicate l._reader []
