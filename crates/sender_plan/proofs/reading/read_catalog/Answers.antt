use Rattle.std.proofs.Common.{Ok, length, refl, ap, sym, subst, ◌∙◌}
use Rattle.std.specs.Prelude.{All}
use Rattle.std.proofs.lemmas.Result.{err_from_is_err_and}
use Rattle.sender_plan.proofs.BadLines.{reading_bad, reading_sound}
use Rattle.sender_plan.proofs.Texts.{IsShort, short_texts}
use Rattle.sender_plan.proofs.reading.read_catalog.Goals as goal

pub returns-in-Some-clause-reading : goal.returns-in-Some-clause-reading
returns-in-Some-clause-reading c = reading_bad c.args.bytes.now c.bad_line.result c.in-Some.bad c.bad_line.ensures c.in-Some.is

pub returns-in_err-instances-clause-reading : goal.returns-in_err-instances-clause-reading
returns-in_err-instances-clause-reading c =
    let p = err_from_is_err_and c.from_residual.result c.from_residual.ensures.1 in
    rw (p.1, p.2, reading_sound c.args.bytes.now c.bad_line.result c.bad_line.ensures c.in_default.is) refl

pub returns-in_err-instances-clause-short : goal.returns-in_err-instances-clause-short
returns-in_err-instances-clause-short c =
    let p = err_from_is_err_and c.from_residual.result c.from_residual.ensures.1 in
    rw p.1 tt

pub returns-clause-reading : goal.returns-clause-reading
returns-clause-reading c =
    reading_sound c.args.bytes.now c.bad_line.result c.bad_line.ensures c.in_default.is
    ∙ ap (λ v. Ok v) (sym c.in_ok-instances.ensures.instances ∙ sym c.new.ensures)

pub returns-clause-short : goal.returns-clause-short
returns-clause-short c =
    subst (All (λ i. All (IsShort (length c.args.bytes.now)) i.items)) (sym c.in_ok-instances.ensures.instances ∙ sym c.new.ensures)
    (short_texts c.args.bytes.now)
