use Rattle.std.proofs.Common.{◌≡◌, ◌++◌, List, ℕ, [], ◌∷◌, sym, ap, subst, ◌∙◌}
use Rattle.lct_header.specs.Header.{Header}
use Rattle.lct_header.specs.Spelling.{spelling}
use Rattle.oti_blocks.specs.Wire.{fti_type, fti_content, fti}
use Rattle.alc_packet.specs.Packet.{SymbolPacket, IsPacket}
use Rattle.alc_packet.specs.Datagram.{Spells, payload_of}
use Rattle.alc_packet.specs.Writing.{header_of}
use Rattle.alc_packet.proofs.Written.{fti_area, written_spells}
use Rattle.alc_packet.proofs.writing.write.Goals as goal

pub write-requires-clause-extensions : goal.write-requires-clause-extensions
write-requires-clause-extensions c = rw c.fti.ensures (record { het = fti_type; content = fti_content c.packet.inside.oti } ∷ [], fti_area c.packet.inside.oti)

pub returns-clause-bytes : goal.returns-clause-bytes
returns-clause-bytes c =
    let p = c.args.packet.now in
    let area : c.fti.result ≡ fti p.oti = c.fti.ensures ∙ ap (λ (q : SymbolPacket). fti q.oti) c.packet.view_is in
    let header : c.header_of-header.result ≡ header_of p = c.header_of-header.ensures in
    c.in_ok-push_payload.ensures
    ∙ ap (λ (xs : List ℕ). xs ++ payload_of p) (c.in_ok-datagram.ensures.bytes ∙ ap (λ (h : Header). spelling h c.fti.result) header ∙ ap (spelling (header_of p)) area)

pub returns-clause-spells : goal.returns-clause-spells
returns-clause-spells c =
    let p = c.args.packet.now in
    subst (λ (d : List ℕ). Spells d p) (sym (returns-clause-bytes c)) (written_spells p (subst IsPacket c.packet.view_is c.packet.invariant))
