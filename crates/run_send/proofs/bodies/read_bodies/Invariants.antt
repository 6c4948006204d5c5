-- the bodies of the names before this one are read
use Rattle.std.proofs.Common.{◌≡◌, ◌≤◌, ℕ, List, length, drop}
use Rattle.run_send.specs.Send.{bodies_of}
use Rattle.run_send.specs.Inner.Stages.{behind}
use Rattle.run_send.proofs.bodies.read_bodies.Given as goal

abbrev pub invariant-loop-name : goal.invariant-loop-name
invariant-loop-name g l = let F = g.F.Files in record {
  told : F.told l.fn.files → F.told l.files;
  same : F.told l.fn.files → (name : List ℕ) → F.found l.files name ≡ F.found l.fn.files name;
  read : F.told l.fn.files
      → bodies_of (F.found l.fn.files) 0 l.names ≡ behind l.bodies (bodies_of (F.found l.fn.files) l.total (drop l.name-index l.names));
  many : length l.bodies ≡ l.name-index;
  most : l.total ≤ 268435456;
  grows : F.faults l.fn.files ≤ F.faults l.files;
  grows_misses : F.misses l.fn.files ≤ F.misses l.files;
}
