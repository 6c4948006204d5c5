use Rattle.std.proofs.Common.{◌-◌, take, drop, length, ap, ◌∙◌}
use Rattle.std.proofs.lemmas.Result.{err_from_is_err_and}
use Rattle.compound_object.specs.Object.{rounded}
use Rattle.compound_object.specs.Reading.{reading}
use Rattle.compound_object.proofs.Sayings.{reading_refused, Fails_is, Fails_fields, metadata_is, body_is, reading_ok, reading_is_ok}
use Rattle.compound_object.proofs.reading.unpack.Goals as goal

pub returns-in_err-header_length-clause-reading : goal.returns-in_err-header_length-clause-reading
returns-in_err-header_length-clause-reading c =
    let p = err_from_is_err_and c.from_residual.result c.from_residual.ensures.1 in
    let o = c.args.bytes.now in
    let fault = c.in_err-header_length.field-0.0 in
    rw (p.1, p.2) (Fails_is fault (reading o) (reading_refused o fault c.in_err-header_length.ensures.fault))

pub returns-in_err-fields-clause-reading : goal.returns-in_err-fields-clause-reading
returns-in_err-fields-clause-reading c =
    let p = err_from_is_err_and c.from_residual-in_err-fields.result c.from_residual-in_err-fields.ensures.1 in
    let o = c.args.bytes.now in
    let h = c.in_ok-header_length in
    let fault = c.in_err-fields.field-0.0 in
    rw (p.1, p.2) (Fails_fields o fault (take (h.header_length - 8) (drop 8 o))
    h.ensures.sound (metadata_is o h.header_length h.ensures.length) c.in_err-fields.ensures.fields)

pub returns-clause-reading : goal.returns-clause-reading
returns-clause-reading c =
    let o = c.args.bytes.now in
    let h = c.in_ok-header_length in
    let r = c.rounded.result in
    let body = body_is o r (c.rounded.ensures ∙ ap rounded h.ensures.length) in
    reading_ok o (take (h.header_length - 8) (drop 8 o)) (take (length o - r) (drop r o)) c.in_ok-fields.fields
    h.ensures.sound (metadata_is o h.header_length h.ensures.length) body c.in_ok-fields.ensures.fields

pub returns-in_err-header_length-clause-memory : goal.returns-in_err-header_length-clause-memory
returns-in_err-header_length-clause-memory c =
    let p = err_from_is_err_and c.from_residual.result c.from_residual.ensures.1 in
    rw (p.1, p.2) (λ same. absurd (c.in_err-header_length.ensures.memory same))

pub returns-in_err-fields-clause-memory : goal.returns-in_err-fields-clause-memory
returns-in_err-fields-clause-memory c =
    let p = err_from_is_err_and c.from_residual-in_err-fields.result c.from_residual-in_err-fields.ensures.1 in
    let o = c.args.bytes.now in
    let h = c.in_ok-header_length in
    rw (p.1, p.2) (λ same. reading_is_ok o (take (h.header_length - 8) (drop 8 o))
    h.ensures.sound (metadata_is o h.header_length h.ensures.length) (c.in_err-fields.ensures.memory same))
