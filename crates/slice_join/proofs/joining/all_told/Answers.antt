use Rattle.std.proofs.Common.{◌++◌, ◌∷◌, [], map, take, sym, ap, ◌∙◌}
use Rattle.slice_join.specs.Faults.{has_bad_head}
use Rattle.slice_join.proofs.Walks.{told_behind, told_more}
use Rattle.slice_join.proofs.joining.all_told.Goals as goal

pub loop-file-preserved : goal.loop-file-preserved
loop-file-preserved c =
    let more = c.more-more.result.now in
    let i = c.loop-file.file-index in
    let x = c.file-item.result in
    let first = c.args.entry.now.first in
    record {
      all = c.in_ok-push-2.ensures ∙ ap (λ xs. xs ++ c.in_ok-read_told-2.field-0 ∷ []) c.loop-file.invariant.all
          ∙ ap (λ f. first ∷ (map (λ f. f.now) (take i more) ++ f ∷ [])) c.in_ok-read_told-2.ensures.file
          ∙ ap (λ fs. first ∷ fs) (sym (told_more more i x c.loop-file-test.true c.file-item.is));
      good = c.loop-file.invariant.good ∙ told_behind has_bad_head more i x c.loop-file-test.true c.file-item.is c.in_ok-read_told-2.ensures.ok;
    }
