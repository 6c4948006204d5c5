-- The length so far is that of the lines of the pairs so far.
use Rattle.std.proofs.Common.{◌≡◌, ◌-◌, ◌^◌, length, map, take, min}
use Rattle.meta_text.specs.Fields.{written}
use Rattle.meta_text.specs.Inner.Spans.{pair_at}
use Rattle.meta_text.proofs.fields.lines_len.Given as goal

abbrev pub invariant-loop-span : goal.invariant-loop-span
invariant-loop-span l = l.len ≡ min (length (written (map (pair_at l.text) (take l.span-index l.spans)))) (2 ^ 64 - 1)
