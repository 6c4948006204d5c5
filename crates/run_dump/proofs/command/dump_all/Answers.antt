use Rattle.std.proofs.Common.{◌++◌, ◌∙◌, sym, ap, subst, arith, take, rules}
use Rattle.run_base.specs.Bounds.{limit}
use Rattle.run_base.specs.Steps.{Fits, Steps}
use Rattle.run_base.proofs.Public.{all_taken, less_more, limit_less, next_taken, on_error, one_more_taken}
use Rattle.run_dump.specs.Dump.{dump_lines}
use Rattle.run_dump.proofs.Dumping.{written_more, lines_written}
use Rattle.run_dump.proofs.command.dump_all.Goals as goal

pub loop-size-preserved : goal.loop-size-preserved
loop-size-preserved g c =
    let D = g.D.Datagrams in
    let before = c.loop-size.invariant in
    let i = c.loop-size.index in
    let left = D.left c.args.datagrams.now in
    let line = c.in_ok-tell_line-in-Got.ensures in
    let d = take c.in-Got.size c.next_within.new.buffer in
    let fits = subst (λ step. Fits step c.next_within.new.buffer c.loop-size.bound c.next_within.new.bound) c.in-Got.is c.in_ok-size.ensures.fits in
    let steps = λ (told : D.told c.args.datagrams.now). subst (λ step. Steps step c.next_within.new.buffer c.loop-size.bound (D.left c.loop-size.datagrams)
    (D.torn c.loop-size.datagrams) (D.left c.next_within.new.datagrams) (D.torn c.next_within.new.datagrams) (D.told c.next_within.new.datagrams))
    c.in-Got.is (c.in_ok-size.ensures.answer (before.told told)) in
    record {
      bound = less_more c.args.bound c.loop-size.bound c.next_within.new.bound i before.bound fits.2;
      within = omega (arith, fits.1, limit_less c.args.bound i, ap limit before.bound);
      told = λ told. (steps told).2;
      taken = λ told. one_more_taken i left _ _ _ d _ _ (before.taken told) (steps told).0 (steps told).1;
      told_text = λ told. line.told (before.told_text told);
      written = λ told text. written_more i left d _ _ _ (before.taken told).few
          (next_taken i left _ _ _ d _ (before.taken told) (steps told).0) (before.written told text) (line.ok (before.told_text text));
      connected = c.next_within.ensures.place ∙ before.connected;
      grows = omega (arith, before.grows, c.next_within.ensures.grows);
      grows_text = omega (arith, before.grows_text, line.grows);
      room = search rules;
    }

pub returns-in_err-size-clause-part : goal.returns-in_err-size-clause-part
returns-in_err-size-clause-part g c = λ told text.
    on_error c.from_residual.result _ (lines_written c.loop-size.index (limit c.args.bound) _ _ _ c.loop-size.invariant.within (c.loop-size.invariant.written told text))

pub returns-in_err-tell_line-in-Got-clause-part : goal.returns-in_err-tell_line-in-Got-clause-part
returns-in_err-tell_line-in-Got-clause-part g c = λ told text.
    let before = c.loop-size.invariant in
    on_error c.from_residual-in_err-tell_line-in-Got.result _ (lines_written c.loop-size.index (limit c.args.bound) _ _ _ before.within
    (c.in_err-tell_line-in-Got.ensures.err (before.told_text text) ∙ before.written told text))

pub returns-in-Ended-clause-text : goal.returns-in-Ended-clause-text
returns-in-Ended-clause-text g c = λ told text.
    let D = g.D.Datagrams in
    let before = c.loop-size.invariant in
    let steps = subst (λ step. Steps step c.next_within.new.buffer c.loop-size.bound (D.left c.loop-size.datagrams)
    (D.torn c.loop-size.datagrams) (D.left c.next_within.new.datagrams) (D.torn c.next_within.new.datagrams) (D.told c.next_within.new.datagrams))
    c.in-Ended.is (c.in_ok-size.ensures.answer (before.told told)) in
    let all = all_taken c.loop-size.index c.args.bound c.loop-size.bound _ _ _ _ _ c.in-Ended.ending before.bound before.within (before.taken told) steps in
    before.written told text ∙ ap (λ ds. g.T.Text.written c.args.text.now ++ dump_lines 0 ds) (sym all.all)
