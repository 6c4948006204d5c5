-- What was found is what the pairs so far have under the name.
use Rattle.std.proofs.Common.{map, take}
use Rattle.meta_text.specs.Lookup.{values_of, Finds}
use Rattle.meta_text.specs.Inner.Spans.{pair_at}
use Rattle.meta_text.proofs.fields.find.Given as goal

abbrev pub invariant-loop-span : goal.invariant-loop-span
invariant-loop-span l = Finds l.found (values_of l.name (map (pair_at l.text) (take l.span-index l.spans)))
