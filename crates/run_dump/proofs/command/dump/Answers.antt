use Rattle.std.proofs.Common.{◌++◌, ◌∙◌, ap, subst, take, drop, sym}
use Rattle.std.proofs.lemmas.Result.{err_from_is_err_and}
use Rattle.run_base.specs.Bounds.{asked}
use Rattle.run_base.specs.declared.bound.Bound.TheVariants.{Most}
use Rattle.run_base.specs.Parts.{AddsPart}
use Rattle.run_base.proofs.Public.{holds_after}
use Rattle.run_dump.specs.Dump.{dump_lines}
use Rattle.run_dump.proofs.Dumping.{asks, ended, status_is, text_is, part_is_part}
use Rattle.run_dump.proofs.command.dump.Goals as goal

pub returns-in_err-ending-clause-text : goal.returns-in_err-ending-clause-text
returns-in_err-ending-clause-text g c = λ told text.
    let D = g.D.Datagrams in
    let connected = c.in-Ok.ensures in
    let error = err_from_is_err_and c.from_residual-in_err-ending.result c.from_residual-in_err-ending.ensures.1 in
    rw error.1 (part_is_part c.args.most (D.left c.args.datagrams.now) (D.torn c.args.datagrams.now) _ _
    (subst (λ l. AddsPart (dump_lines 0 (take c.args.most l)) (g.T.Text.written c.args.text.now) (g.T.Text.written c.dump_all.new.text))
    (connected.left told) (c.in_err-ending.ensures.part (connected.told told) text)))

pub returns-clause-status : goal.returns-clause-status
returns-clause-status g c = λ told.
    let connected = c.in-Ok.ensures in
    status_is c.args.most _ _ c.in_ok-ending.ending c.end.result
    (ended c.args.most _ _ _ _ c.in_ok-ending.ending (connected.left told) (connected.torn told) (c.in_ok-ending.ensures.ending (connected.told told)))
    c.end.ensures.status

pub returns-clause-text : goal.returns-clause-text
returns-clause-text g c = λ told text.
    let D = g.D.Datagrams in
    let connected = c.in-Ok.ensures in
    let lines = c.in_ok-ending.ensures in
    text_is c.end.result c.args.most (D.left c.args.datagrams.now) (D.torn c.args.datagrams.now) c.in_ok-ending.ending (g.T.Text.told c.dump_all.new.text)
    _ _ _ (lines.told text)
    (ended c.args.most _ _ _ _ c.in_ok-ending.ending (connected.left told) (connected.torn told) (lines.ending (connected.told told)))
    (lines.text (connected.told told) text ∙ ap (λ l. g.T.Text.written c.args.text.now ++ dump_lines 0 (take c.args.most l)) (connected.left told))
    c.end.ensures.ok c.end.ensures.err

pub returns-clause-left : goal.returns-clause-left
returns-clause-left g c = λ told.
    let D = g.D.Datagrams in
    let connected = c.in-Ok.ensures in
    holds_after c.end.result _ (c.in_ok-ending.ensures.left (connected.told told) ∙ ap (drop (asked (Most c.args.most))) (connected.left told)
    ∙ ap (λ n. drop n (D.left c.args.datagrams.now)) (sym (asks c.args.most (D.left c.args.datagrams.now) (D.torn c.args.datagrams.now))))
