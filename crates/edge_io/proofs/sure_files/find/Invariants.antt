use Rattle.std.proofs.Common.{◌≡◌, drop}
use Rattle.edge_io.specs.NamedFiles.{found_in}
use Rattle.edge_io.proofs.sure_files.find.Given as goal

-- The files that are left have the answer.
abbrev pub invariant-loop-held : goal.invariant-loop-held
invariant-loop-held l = found_in (drop l.held-index l.files) l.name ≡ found_in l.files l.name
