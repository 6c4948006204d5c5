use Rattle.std.proofs.Common.{◌<◌, length, arith}
use Rattle.std.proofs.lemmas.Result.{err_from_is_err_and}
use Rattle.meta_text.specs.Inner.Spans.{pair_at}
use Rattle.meta_text.proofs.Fronts.{front_of_line}
use Rattle.meta_text.proofs.fields.push_lines.Goals as goal

pub returns-in_err-push_line-clause-front : goal.returns-in_err-push_line-clause-front
returns-in_err-push_line-clause-front c =
    let p = err_from_is_err_and c.from_residual.result c.from_residual.ensures.1 in
    let less : c.loop-span.span-index < length c.args.spans.now = omega arith in
    rw p.1 (front_of_line (pair_at c.args.text.now) c.args.spans.now c.loop-span.span-index _ c.args.out.now.items c.loop-span.out.items _
    c.in_err-push_line.ensures.front.0 less c.loop-span.invariant c.in_err-push_line.ensures.front.1)
