use Rattle.std.proofs.Common.{◌++◌, ◌∷◌, [], take, sym, ap, ◌∙◌}
use Rattle.std.proofs.lemmas.List.{take_more}
use Rattle.slice_join.specs.Groups.{entries_of}
use Rattle.slice_join.specs.Inner.Places.{with_file}
use Rattle.slice_join.proofs.Grouping.{entries_more}
use Rattle.slice_join.proofs.groups.entries.Goals as goal

pub loop-file-preserved : goal.loop-file-preserved
loop-file-preserved c =
    let files = c.args.files.now in
    let i = c.loop-file.file-index in
    let g = c.file-item.result in
    record {
      entries = c.in_ok-add.ensures.entries ∙ ap (λ es. with_file es g) c.loop-file.invariant.entries
          ∙ sym (entries_more (take i files) g)
          ∙ ap entries_of (ap (λ x. take i files ++ x ∷ []) c.file-item.is ∙ sym (take_more files i g c.loop-file-test.true));
      places = c.in_ok-add.ensures.places;
    }
