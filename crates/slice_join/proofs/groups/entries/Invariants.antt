-- the entries are those of the files so far
use Rattle.std.proofs.Common.{◌≡◌, take}
use Rattle.slice_join.specs.Groups.{entries_of}
use Rattle.slice_join.specs.Inner.Places.{ArePlaces}
use Rattle.slice_join.proofs.groups.entries.Given as goal

abbrev pub invariant-loop-file : goal.invariant-loop-file
invariant-loop-file l = record {
  entries : l.entries.items ≡ entries_of (take l.file-index l.files);
  places : ArePlaces l.places l.entries.items;
}
