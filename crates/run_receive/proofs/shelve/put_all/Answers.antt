use Rattle.std.proofs.Common.{◌∙◌, sym, ap, arith}
use Rattle.edge_io.specs.Shelved.{Shelved, with_file}
use Rattle.run_receive.proofs.Installing.{put_more}
use Rattle.run_receive.proofs.shelve.put_all.Goals as goal

pub loop-file-preserved : goal.loop-file-preserved
loop-file-preserved g c = record {
  told = λ told. c.in_ok-put.ensures.told (c.loop-file.invariant.told told);
  holds = λ told.
      c.in_ok-put.ensures.ok (c.loop-file.invariant.told told)
      ∙ ap (λ (s : Shelved). with_file s c.file-item.result.toi c.as_slice.result.now) (c.loop-file.invariant.holds told)
      ∙ ap (with_file _ c.file-item.result.toi) c.as_slice.ensures
      ∙ sym (put_more c.args.files.now c.loop-file.file-index c.file-item.result (g.S.Shelf.holds c.args.shelf.now) c.loop-file-test.true (sym c.file-item.is));
  grows = omega (arith, c.loop-file.invariant.grows, c.in_ok-put.ensures.grows);
}
