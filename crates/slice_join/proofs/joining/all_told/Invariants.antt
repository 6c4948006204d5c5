-- the slices so far are told, and the first bad one is among the others
use Rattle.std.proofs.Common.{◌≡◌, ◌∷◌, map, take, drop}
use Rattle.slice_join.specs.Groups.{files_of}
use Rattle.slice_join.specs.Faults.{first_where, has_bad_head}
use Rattle.slice_join.proofs.joining.all_told.Given as goal

abbrev pub invariant-loop-file : goal.invariant-loop-file
invariant-loop-file l = record {
  all : l.all.items ≡ l.entry.first ∷ map (λ f. f.now) (take l.file-index l.more);
  good : first_where has_bad_head (files_of l.entry) ≡ first_where has_bad_head (map (λ f. f.now) (drop l.file-index l.more));
}
