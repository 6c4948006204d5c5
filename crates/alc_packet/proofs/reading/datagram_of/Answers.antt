use Rattle.std.proofs.Common.{◌-◌, length, take, drop, Err, sym, ap, subst, ◌∙◌, arith}
use Rattle.std.proofs.lemmas.Bool.{eqb-false}
use Rattle.std.proofs.lemmas.Result.{err_from_is_err_and}
use Rattle.wire_bytes.proofs.Public.{bytes_by_place}
use Rattle.lct_header.specs.HeaderView.{HeaderView}
use Rattle.alc_packet.specs.Pieces.{Pieces, fti_contents}
use Rattle.alc_packet.specs.Answer.{Says}
use Rattle.alc_packet.proofs.Saying.{are_cut, read_spells, read_refuses}
use Rattle.alc_packet.proofs.reading.datagram_of.Goals as goal

pub returns-in_err-packet : goal.returns-in_err-packet
returns-in_err-packet c =
    let d = c.args.bytes.now in
    let v : HeaderView = record { header = c.view.inside.header; length = c.view.inside.length; area = c.view.inside.area.now } in
    let x : Pieces = record { header = v.header; ftis = fti_contents c.extensions.result; payload = take (length d - v.length) (drop v.length d) } in
    let are = are_cut d v c.in_ok-view.view c.extensions.result c.view.view_is c.in_ok-view.ensures.found c.extensions.ensures.all in
    let some = eqb-false (length x.payload) 0 (sym c.is_empty.ensures ∙ c.if-is_empty.false) in
    let told = err_from_is_err_and c.from_residual-in_err-packet.result c.from_residual-in_err-packet.ensures.1 in
    subst (Says d) (sym (told.1 ∙ ap Err told.2)) (read_refuses d x c.in_err-packet.field-0.0 are (omega (arith, some)) (sym c.in_err-packet.ensures))

pub returns : goal.returns
returns c =
    let d = c.args.bytes.now in
    let v : HeaderView = record { header = c.view.inside.header; length = c.view.inside.length; area = c.view.inside.area.now } in
    let x : Pieces = record { header = v.header; ftis = fti_contents c.extensions.result; payload = take (length d - v.length) (drop v.length d) } in
    let are = are_cut d v c.in_ok-view.view c.extensions.result c.view.view_is c.in_ok-view.ensures.found c.extensions.ensures.all in
    read_spells d x c.in_ok-packet.packet (bytes_by_place d (λ i. omega (arith, c.type_inv.bytes i))) are (sym c.in_ok-packet.ensures)
