-- the parts so far are held, and the first place that comes twice is among those left
use Rattle.std.proofs.Common.{◌≡◌, [], map, take, drop}
use Rattle.slice_join.specs.Faults.{places_of, repeated, said}
use Rattle.slice_join.specs.Inner.Places.{AreParts}
use Rattle.slice_join.proofs.joining.parts_of.Given as goal

abbrev pub invariant-loop-told : goal.invariant-loop-told
invariant-loop-told l = record {
  parts : AreParts l.parts (map said (take l.told-index l.all));
  once : repeated [] (places_of (map said l.all)) ≡ repeated (places_of (map said (take l.told-index l.all))) (places_of (map said (drop l.told-index l.all)));
}
