-- The lines so far are those of the pairs so far.
use Rattle.std.proofs.Common.{◌≡◌, ◌++◌, map, take}
use Rattle.meta_text.specs.Fields.{written}
use Rattle.meta_text.specs.Inner.Spans.{pair_at}
use Rattle.meta_text.proofs.fields.push_lines.Given as goal

abbrev pub invariant-loop-span : goal.invariant-loop-span
invariant-loop-span l = l.out.items ≡ l.initial.out.items ++ written (map (pair_at l.text) (take l.span-index l.spans))
