-- the files before this one are put
use Rattle.std.proofs.Common.{◌≡◌, ◌≤◌, take, map}
use Rattle.edge_io.specs.ShelfCalls.{after}
use Rattle.run_receive.specs.Outcome.{put_of}
use Rattle.run_receive.proofs.shelve.put_all.Given as goal

abbrev pub invariant-loop-file : goal.invariant-loop-file
invariant-loop-file g l = let S = g.S.Shelf in record {
  told : S.told l.fn.shelf → S.told l.shelf;
  holds : S.told l.fn.shelf → S.holds l.shelf ≡ after (take l.file-index (map put_of l.files)) (S.holds l.fn.shelf);
  grows : S.faults l.fn.shelf ≤ S.faults l.shelf;
}
