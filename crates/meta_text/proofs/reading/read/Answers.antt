use Rattle.std.proofs.lemmas.Result.{err_from_is_err_and}
use Rattle.meta_text.specs.Lines.{numbered, lines_of}
use Rattle.meta_text.specs.Reading.{reading}
use Rattle.meta_text.proofs.Sound.{Fails_is, reading_faulty, no_memory_fault, ok_given}
use Rattle.meta_text.proofs.reading.read.Goals as goal

pub returns-in_err-pairs-clause-reading : goal.returns-in_err-pairs-clause-reading
returns-in_err-pairs-clause-reading c =
    let p = err_from_is_err_and c.from_residual.result c.from_residual.ensures.1 in
    let bytes = c.args.bytes.now in
    let fault = c.in_err-pairs.field-0.0 in
    rw (p.1, p.2) (Fails_is fault (reading bytes) (reading_faulty bytes fault c.in_err-pairs.ensures.fault))

pub returns-in_err-pairs-clause-memory : goal.returns-in_err-pairs-clause-memory
returns-in_err-pairs-clause-memory c =
    let p = err_from_is_err_and c.from_residual.result c.from_residual.ensures.1 in
    rw (p.1, p.2) (λ same. absurd (no_memory_fault (numbered 1 (lines_of c.args.bytes.now)) c.in_err-pairs.field-0.0 c.in_err-pairs.ensures.fault same))

pub returns-clause-memory : goal.returns-clause-memory
returns-clause-memory c = ok_given c.collect.result c.args.bytes.now c.in_ok-pairs.ensures.sound
