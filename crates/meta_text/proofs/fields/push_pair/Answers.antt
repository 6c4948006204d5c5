use Rattle.std.proofs.Common.{◌++◌}
use Rattle.std.proofs.lemmas.Result.{err_from_is_err_and}
use Rattle.meta_text.proofs.PairSpans.{extended, spans_more, pairs_more, spans_grow, pairs_grow}
use Rattle.meta_text.proofs.fields.push_pair.Goals as goal

pub returns-in_err-span-clause-spans : goal.returns-in_err-span-clause-spans
returns-in_err-span-clause-spans c =
    (extended c.args.text.now.items c.push_text.new.text.items c.args.spans.now.items c.requires.spans c.in_err-span.ensures.err).0

pub returns-in_err-span-clause-err : goal.returns-in_err-span-clause-err
returns-in_err-span-clause-err c =
    let p = err_from_is_err_and c.from_residual.result c.from_residual.ensures.1 in
    rw p.1 (extended c.args.text.now.items c.push_text.new.text.items c.args.spans.now.items c.requires.spans c.in_err-span.ensures.err).1

pub returns-in_err-push-clause-spans : goal.returns-in_err-push-clause-spans
returns-in_err-push-clause-spans c =
    rw (c.in_err-push.ensures.items, c.in_ok-span.ensures.text)
    (spans_grow c.args.text.now.items (c.args.name.now ++ c.args.value.now) c.args.spans.now.items c.requires.spans)

pub returns-in_err-push-clause-err : goal.returns-in_err-push-clause-err
returns-in_err-push-clause-err c =
    let p = err_from_is_err_and c.from_residual-in_err-push.result c.from_residual-in_err-push.ensures.1 in
    rw (p.1, c.in_err-push.ensures.items, c.in_ok-span.ensures.text)
    (pairs_grow c.args.text.now.items (c.args.name.now ++ c.args.value.now) c.args.spans.now.items c.requires.spans)

pub returns-clause-spans : goal.returns-clause-spans
returns-clause-spans c =
    rw (c.in_ok-push.ensures.items, c.in_ok-span.ensures.text, c.in_ok-span.ensures.span)
    (spans_more c.args.text.now.items c.args.name.now c.args.value.now c.args.spans.now.items c.requires.spans c.requires.name c.requires.value)

pub returns-clause-ok : goal.returns-clause-ok
returns-clause-ok c =
    rw (c.in_ok-push.ensures.items, c.in_ok-span.ensures.text, c.in_ok-span.ensures.span)
    (pairs_more c.args.text.now.items c.args.name.now c.args.value.now c.args.spans.now.items c.requires.spans)
