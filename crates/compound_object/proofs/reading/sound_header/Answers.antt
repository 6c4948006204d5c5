use Rattle.std.proofs.Common.{◌≡◌, ◌≤◌, ◌<◌, ◌⊎◌, length, inl, inr, sym, ap, ◌∙◌, arith}
use Rattle.wire_bytes.specs.Bytes.{are_zero}
use Rattle.compound_object.specs.Reading.{header_length, body_start, encoding_in}
use Rattle.compound_object.proofs.Refusals.{refused_short, refused_version, refused_length, refused_format, refused_gzip}
use Rattle.compound_object.proofs.Refusals.{refused_fill, refused_sum, not_refused, filling_is}
use Rattle.compound_object.proofs.reading.sound_header.Goals as goal
use Rattle.compound_object.proofs.reading.sound_header.Goals.{then-bytes-ne0-2-via-then-bytes-ne0-2, then-bytes-ne0-2-via-else-bytes-ne0-2+then-bytes-gt1}
use Rattle.compound_object.proofs.reading.sound_header.Goals.{then-header_length-lt8-via-then-header_length-lt8}
use Rattle.compound_object.proofs.reading.sound_header.Goals.{then-header_length-lt8-via-else-header_length-lt8+then-body_start-bytes}

pub returns-then-bytes-lt8-clause-fault : goal.returns-then-bytes-lt8-clause-fault
returns-then-bytes-lt8-clause-fault c = refused_short c.args.bytes.now c.if-bytes-lt8.true

pub returns-then-bytes-ne0-clause-fault : goal.returns-then-bytes-ne0-clause-fault
returns-then-bytes-ne0-clause-fault c = refused_version c.args.bytes.now c.if-bytes-lt8.false c.if-bytes-ne0.true

pub returns-then-header_length-lt8-clause-fault : goal.returns-then-header_length-lt8-clause-fault
returns-then-header_length-lt8-clause-fault c =
    let o = c.args.bytes.now in
    let length-is = c.header_length-header_length.ensures.value in
    let start-is = c.rounded-body_start.ensures in
    let bad : (header_length o < 8) ⊎ (length o < body_start o) =
    elim c.then-header_length-lt8.branch [
      | then-header_length-lt8-via-then-header_length-lt8 w ↦ inl (omega (arith, w.if-header_length-lt8.true, length-is))
      | then-header_length-lt8-via-else-header_length-lt8+then-body_start-bytes w ↦ inr (omega (arith, w.if-body_start-bytes.true, length-is, start-is))
    ] in
    refused_length o c.if-bytes-lt8.false c.if-bytes-ne0.false bad

pub returns-then-bytes-ne0-2-clause-fault : goal.returns-then-bytes-ne0-2-clause-fault
returns-then-bytes-ne0-2-clause-fault c =
    let o = c.args.bytes.now in
    let length-is = c.header_length-header_length.ensures.value in
    let start-is = c.rounded-body_start.ensures in
    let least : 8 ≤ header_length o = omega (arith, c.if-header_length-lt8.false, length-is) in
    let within : body_start o ≤ length o = omega (arith, c.if-body_start-bytes.false, length-is, start-is) in
    refused_format o c.if-bytes-lt8.false c.if-bytes-ne0.false least within
    (elim c.then-bytes-ne0-2.branch [
      | then-bytes-ne0-2-via-then-bytes-ne0-2 w ↦ inl w.if-bytes-ne0-2.true
      | then-bytes-ne0-2-via-else-bytes-ne0-2+then-bytes-gt1 w ↦ inr w.if-bytes-gt1.true
    ])

pub returns-then-bytes-eq1-clause-fault : goal.returns-then-bytes-eq1-clause-fault
returns-then-bytes-eq1-clause-fault c =
    let o = c.args.bytes.now in
    let length-is = c.header_length-header_length.ensures.value in
    let start-is = c.rounded-body_start.ensures in
    let least : 8 ≤ header_length o = omega (arith, c.if-header_length-lt8.false, length-is) in
    let within : body_start o ≤ length o = omega (arith, c.if-body_start-bytes.false, length-is, start-is) in
    refused_gzip o c.if-bytes-lt8.false c.if-bytes-ne0.false least within c.if-bytes-ne0-2.false c.if-bytes-eq1.true

pub returns-then-not-is_zero-clause-fault : goal.returns-then-not-is_zero-clause-fault
returns-then-not-is_zero-clause-fault c =
    let o = c.args.bytes.now in
    let length-is = c.header_length-header_length.ensures.value in
    let start-is = c.rounded-body_start.ensures in
    let least : 8 ≤ header_length o = omega (arith, c.if-header_length-lt8.false, length-is) in
    let within : body_start o ≤ length o = omega (arith, c.if-body_start-bytes.false, length-is, start-is) in
    let plain : encoding_in o ≡ 0 = omega (arith, c.if-bytes-gt1.false, c.if-bytes-eq1.false) in
    let filling = filling_is o c.header_length-header_length.result c.rounded-body_start.result length-is start-is in
    refused_fill o c.if-bytes-lt8.false c.if-bytes-ne0.false least within c.if-bytes-ne0-2.false plain
    (ap are_zero (sym filling) ∙ sym c.if-not-is_zero.ensures)

pub returns-then-stated-found-clause-fault : goal.returns-then-stated-found-clause-fault
returns-then-stated-found-clause-fault c =
    let o = c.args.bytes.now in
    let length-is = c.header_length-header_length.ensures.value in
    let start-is = c.rounded-body_start.ensures in
    let least : 8 ≤ header_length o = omega (arith, c.if-header_length-lt8.false, length-is) in
    let within : body_start o ≤ length o = omega (arith, c.if-body_start-bytes.false, length-is, start-is) in
    let plain : encoding_in o ≡ 0 = omega (arith, c.if-bytes-gt1.false, c.if-bytes-eq1.false) in
    let filling = filling_is o c.header_length-header_length.result c.rounded-body_start.result length-is start-is in
    let zeros = ap are_zero (sym filling) ∙ sym c.if-not-is_zero.ensures in
    let stated = c.stated_sum-stated.ensures in
    let found = c.found_sum-found.ensures in
    rw (stated, found) (refused_sum o c.if-bytes-lt8.false c.if-bytes-ne0.false least within
    c.if-bytes-ne0-2.false plain zeros (λ e. c.if-stated-found.true (stated ∙ e ∙ sym found)))

pub returns-clause-sound : goal.returns-clause-sound
returns-clause-sound c =
    let o = c.args.bytes.now in
    let length-is = c.header_length-header_length.ensures.value in
    let start-is = c.rounded-body_start.ensures in
    let filling = filling_is o c.header_length-header_length.result c.rounded-body_start.result length-is start-is in
    not_refused o (record {
      long = c.if-bytes-lt8.false;
      version = c.if-bytes-ne0.false;
      least = omega (arith, c.if-header_length-lt8.false, length-is);
      within = omega (arith, c.if-body_start-bytes.false, length-is, start-is);
      format = c.if-bytes-ne0-2.false;
      plain = omega (arith, c.if-bytes-gt1.false, c.if-bytes-eq1.false);
      zeros = ap are_zero (sym filling) ∙ sym c.if-not-is_zero.ensures;
      sum = sym c.stated_sum-stated.ensures ∙ c.if-stated-found.false ∙ c.found_sum-found.ensures;
    })
