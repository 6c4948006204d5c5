use Rattle.std.proofs.Common.{◌+◌, arith}
use Rattle.std.proofs.lemmas.Result.{err_from_is_err_and}
use Rattle.meta_text.specs.Reading.{reading}
use Rattle.meta_text.proofs.Runs.{begins, ends}
use Rattle.meta_text.proofs.reading.collect.Goals as goal

pub loop-rest-init : goal.loop-rest-init
loop-rest-init c = record { count = omega arith; whole = rw c.in_ok-fields.ensures (begins c.args.bytes.now) }

pub returns-in_err-add_line : goal.returns-in_err-add_line
returns-in_err-add_line c =
    let p = err_from_is_err_and c.from_residual-in_err-add_line.result c.from_residual-in_err-add_line.ensures.1 in
    let l = c.loop-rest in
    rw (p.1, p.2) (ends c.in_err-add_line.field-0.0 l.fields (l.number + 1) l.rest.now c.split_line.result.0.now
    c.split_line.result.1.now (reading c.args.bytes.now) c.split_line.ensures.lines c.in_err-add_line.ensures.fault l.invariant.whole)
