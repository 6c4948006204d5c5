use Rattle.std.proofs.Common.{Ok, Err, Option, sym, ap, subst, ◌∙◌}
use Rattle.std.proofs.lemmas.Result.{err_from_is_err_and}
use Rattle.wire_bytes.specs.FirstFault.{unless_fault}
use Rattle.lct_header.specs.Header.{Header, IsHeader}
use Rattle.alc_packet.specs.declared.refusal.Refusal.{Refusal}
use Rattle.alc_packet.specs.Packet.{IsPacket}
use Rattle.alc_packet.specs.Pieces.{Pieces, fti_contents}
use Rattle.alc_packet.specs.Refusal.{packet_in}
use Rattle.alc_packet.proofs.Packets.{made}
use Rattle.alc_packet.proofs.Readings.{HasContent, HasInformation, HasValues, refused_header, refused_fti, refused_information}
use Rattle.alc_packet.proofs.Readings.{refused_payload, past_payload, values_are_packet, values_read}
use Rattle.alc_packet.proofs.reading.read_packet.Goals as goal

pub returns-in-Some : goal.returns-in-Some
returns-in-Some c =
    let x : Pieces = record { header = c.args.header.now; ftis = fti_contents c.args.extensions; payload = c.args.payload.now } in
    refused_header x c.in-Some.refusal (c.in-Some.ensures x.ftis x.payload)

pub returns-in_err-content : goal.returns-in_err-content
returns-in_err-content c =
    let x : Pieces = record { header = c.args.header.now; ftis = fti_contents c.args.extensions; payload = c.args.payload.now } in
    let told = err_from_is_err_and c.from_residual.result c.from_residual.ensures.1 in
    told.1 ∙ ap Err told.2 ∙ refused_fti x c.in_err-content.field-0.0 (c.in_default.ensures x.ftis x.payload) c.in_err-content.ensures.refused

pub returns-in_err-oti : goal.returns-in_err-oti
returns-in_err-oti c =
    let x : Pieces = record { header = c.args.header.now; ftis = fti_contents c.args.extensions; payload = c.args.payload.now } in
    let content : HasContent x c.in_ok-content.content.now = record { header = c.in_default.ensures x.ftis x.payload; only = c.in_ok-content.ensures.found } in
    let told = err_from_is_err_and c.from_residual-in_err-oti.result c.from_residual-in_err-oti.ensures.1 in
    told.1 ∙ ap Err told.2 ∙ refused_information x c.in_ok-content.content.now c.in_err-oti.field-0.0 content c.in_err-oti.ensures.exact

pub returns-in_err-sbn : goal.returns-in_err-sbn
returns-in_err-sbn c =
    let x : Pieces = record { header = c.args.header.now; ftis = fti_contents c.args.extensions; payload = c.args.payload.now } in
    let content : HasContent x c.in_ok-content.content.now = record { header = c.in_default.ensures x.ftis x.payload; only = c.in_ok-content.ensures.found } in
    let information : HasInformation x c.in_ok-oti.oti = record { content = c.in_ok-content.content.now; has = content; read = c.in_ok-oti.ensures.exact } in
    let told = err_from_is_err_and c.from_residual-in_err-sbn.result c.from_residual-in_err-sbn.ensures.1 in
    told.1 ∙ ap Err (told.2 ∙ c.in_err-sbn.ensures.refused.0) ∙ refused_payload x c.in_ok-oti.oti information c.in_err-sbn.ensures.refused.1

pub returns-in-Some-first_refusal : goal.returns-in-Some-first_refusal
returns-in-Some-first_refusal c =
    let x : Pieces = record { header = c.args.header.now; ftis = fti_contents c.args.extensions; payload = c.args.payload.now } in
    let content : HasContent x c.in_ok-content.content.now = record { header = c.in_default.ensures x.ftis x.payload; only = c.in_ok-content.ensures.found } in
    let information : HasInformation x c.in_ok-oti.oti = record { content = c.in_ok-content.content.now; has = content; read = c.in_ok-oti.ensures.exact } in
    let values = past_payload x c.in_ok-oti.oti information c.in_ok-sbn.ensures.long in
    let line = c.in-Some-first_refusal.ensures.first (packet_in x) values.1 (sym c.in_ok-sbn.ensures.sbn)
    (sym c.in_ok-sbn.ensures.esi) (sym c.in_ok-sbn.ensures.symbol) in
    sym (values.0 ∙ ap (λ (fault : Option Refusal). unless_fault fault (packet_in x)) (sym line))

pub invariant_of-result : goal.invariant_of-result
invariant_of-result c =
    let x : Pieces = record { header = c.args.header.now; ftis = fti_contents c.args.extensions; payload = c.args.payload.now } in
    let content : HasContent x c.in_ok-content.content.now = record { header = c.in_default.ensures x.ftis x.payload; only = c.in_ok-content.ensures.found } in
    let information : HasInformation x c.in_ok-oti.oti = record { content = c.in_ok-content.content.now; has = content; read = c.in_ok-oti.ensures.exact } in
    let oti = (past_payload x c.in_ok-oti.oti information c.in_ok-sbn.ensures.long).1 in
    let none = c.in_default-first_refusal.ensures.first (packet_in x) oti (sym c.in_ok-sbn.ensures.sbn) (sym c.in_ok-sbn.ensures.esi) (sym c.in_ok-sbn.ensures.symbol) in
    let values : HasValues x c.in_ok-oti.oti = record { information = information; long = c.in_ok-sbn.ensures.long; none = none } in
    let same = made (packet_in x) _ _ _ _ _ _ _ (ap (λ (h : Header). h.tsi) c.header.view_is) (ap (λ (h : Header). h.toi) c.header.view_is)
    (sym oti) c.in_ok-sbn.ensures.sbn c.in_ok-sbn.ensures.esi c.in_ok-sbn.ensures.symbol (ap (λ (h : Header). h.close_session) c.header.view_is) in
    subst IsPacket (sym same) (values_are_packet x c.in_ok-oti.oti values (subst IsHeader c.header.view_is c.header.invariant) c.in_default-first_refusal.ensures.sound)

pub returns : goal.returns
returns c =
    let x : Pieces = record { header = c.args.header.now; ftis = fti_contents c.args.extensions; payload = c.args.payload.now } in
    let content : HasContent x c.in_ok-content.content.now = record { header = c.in_default.ensures x.ftis x.payload; only = c.in_ok-content.ensures.found } in
    let information : HasInformation x c.in_ok-oti.oti = record { content = c.in_ok-content.content.now; has = content; read = c.in_ok-oti.ensures.exact } in
    let oti = (past_payload x c.in_ok-oti.oti information c.in_ok-sbn.ensures.long).1 in
    let none = c.in_default-first_refusal.ensures.first (packet_in x) oti (sym c.in_ok-sbn.ensures.sbn) (sym c.in_ok-sbn.ensures.esi) (sym c.in_ok-sbn.ensures.symbol) in
    let values : HasValues x c.in_ok-oti.oti = record { information = information; long = c.in_ok-sbn.ensures.long; none = none } in
    let same = made (packet_in x) _ _ _ _ _ _ _ (ap (λ (h : Header). h.tsi) c.header.view_is) (ap (λ (h : Header). h.toi) c.header.view_is)
    (sym oti) c.in_ok-sbn.ensures.sbn c.in_ok-sbn.ensures.esi c.in_ok-sbn.ensures.symbol (ap (λ (h : Header). h.close_session) c.header.view_is) in
    ap Ok same ∙ values_read x c.in_ok-oti.oti values
