-- the bytes of the files before this one
use Rattle.std.proofs.Common.{◌≡◌, take}
use Rattle.run_drill.specs.Drill.{total_of}
use Rattle.run_drill.proofs.summary.total_of.Given as goal

abbrev pub invariant-loop-file : goal.invariant-loop-file
invariant-loop-file l = l.total ≡ total_of (take l.file-index l.files)
