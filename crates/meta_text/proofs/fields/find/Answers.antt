use Rattle.std.proofs.Common.{sym, subst}
use Rattle.meta_text.specs.Lookup.{Finds}
use Rattle.meta_text.specs.Inner.Spans.{pair_at}
use Rattle.meta_text.proofs.Lookups.{values_of-more}
use Rattle.meta_text.proofs.fields.find.Goals as goal

pub loop-span-preserved : goal.loop-span-preserved
loop-span-preserved c =
    let step = c.noted-found.ensures _ c.loop-span.invariant in
    let more = values_of-more c.args.name.now (pair_at c.args.text.now) c.args.spans.now
    c.loop-span.span-index (record { start = 0; middle = 0; end = 0 }) c.loop-span-test.true in
    subst (Finds c.noted-found.result) (sym more) step
