use Rattle.std.proofs.Common.{◌≡◌, ◌*◌, ◌==◌, ℕ, take, drop, ap, sym, ◌∙◌, arith}
use Rattle.std.specs.List.{position_from, zip}
use Rattle.oti_blocks.specs.Partition.{sources, size_at, start_at, symbol_of}
use Rattle.oti_blocks.proofs.Public.{encoding_at_bounds}
use Rattle.alc_packet.specs.Packet.{SymbolPacket}
use Rattle.wire_bytes.specs.Bytes.{zero_filled}
use Rattle.object_store.specs.Inner.BlockRows.{symbol_row}
use Rattle.object_store.specs.Inner.ObjectHeld.{is_done, finding_at}
use Rattle.object_store.specs.Inner.ObjectParts.{places_of, ready_object}
use Rattle.object_store.proofs.Differences.{differ}
use Rattle.object_store.proofs.FoundJoined.{found_joined, not_joined}
use Rattle.object_store.proofs.WithPacket.{symbol_within}
use Rattle.object_store.proofs.ready.find_joined.Goals as goal

pub symbol_difference-requires-clause-esi : goal.symbol_difference-requires-clause-esi
symbol_difference-requires-clause-esi c =
    let is = c.packet.invariant in
    omega (arith, is.place, (encoding_at_bounds c.packet.inside.oti is.sound c.packet.inside.sbn is.block).1, is.sound.max_n_fits)

pub symbol_difference-requires-clause-symbol : goal.symbol_difference-requires-clause-symbol
symbol_difference-requires-clause-symbol c =
    let i = c.packet.inside in
    let p : SymbolPacket = record { tsi = i.tsi; toi = i.toi; oti = i.oti; sbn = i.sbn; esi = i.esi; symbol = i.symbol.now; close = i.close } in
    omega (arith, symbol_within p c.packet.invariant, c.symbol-in-Some.ensures.value)

pub returns-in-Some : goal.returns-in-Some
returns-in-Some c =
    let i = c.packet.inside in
    let p : SymbolPacket = record { tsi = i.tsi; toi = i.toi; oti = i.oti; sbn = i.sbn; esi = i.esi; symbol = i.symbol.now; close = i.close } in
    let places = c.args.places.now in
    let bytes = c.args.bytes.now in
    let one : (n : ℕ) → n * 1 ≡ n = λ n. omega arith in
    let place_is : c.of_block.result.now ≡ places_of i.oti places i.sbn = c.of_block.ensures.part
    ∙ ap (λ (n : ℕ). take n (drop (start_at i.oti i.sbn * 1) places)) (one (size_at i.oti i.sbn))
    ∙ ap (λ (n : ℕ). take (size_at i.oti i.sbn) (drop n places)) (one (start_at i.oti i.sbn)) in
    let symbol_is = c.symbol-in-Some.ensures.value in
    let source_is = c.of_block-source.ensures.part
    ∙ ap (λ (w : ℕ). take (size_at i.oti i.sbn * w) (drop (start_at i.oti i.sbn * w) bytes)) (c.from.ensures ∙ c.symbol.ensures.value) in
    c.compared.ensures ∙ found_joined p places bytes c.of_block-source.result.now c.in-Some.field-0 c.symbol_difference.result c.packet.invariant
    (c.requires.places ∙ ap (λ (q : SymbolPacket). sources q.oti) (sym c.packet.view_is))
    (c.requires.bytes ∙ ap (λ (q : SymbolPacket). sources q.oti * symbol_of q.oti) (sym c.packet.view_is)) source_is
    (c.in-Some.ensures.first ∙ ap (position_from (λ q. q == i.esi) 0) place_is)
    (c.symbol_difference.ensures
    ∙ ap (λ (k : ℕ). position_from differ 0 (zip (symbol_row k c.symbol-in-Some.result c.of_block-source.result.now i.esi) (zero_filled c.symbol-in-Some.result i.symbol.now)))
    c.block_k-k.ensures.value
    ∙ ap (λ (e : ℕ). position_from differ 0 (zip (symbol_row (size_at i.oti i.sbn) e c.of_block-source.result.now i.esi) (zero_filled e i.symbol.now))) symbol_is)
    ∙ ap (λ (q : SymbolPacket). finding_at (ready_object q.oti places bytes) q) c.packet.view_is

pub returns-in-None : goal.returns-in-None
returns-in-None c =
    let i = c.packet.inside in
    let p : SymbolPacket = record { tsi = i.tsi; toi = i.toi; oti = i.oti; sbn = i.sbn; esi = i.esi; symbol = i.symbol.now; close = i.close } in
    let places = c.args.places.now in
    let bytes = c.args.bytes.now in
    let one : (n : ℕ) → n * 1 ≡ n = λ n. omega arith in
    let place_is : c.of_block.result.now ≡ places_of i.oti places i.sbn = c.of_block.ensures.part
    ∙ ap (λ (n : ℕ). take n (drop (start_at i.oti i.sbn * 1) places)) (one (size_at i.oti i.sbn))
    ∙ ap (λ (n : ℕ). take (size_at i.oti i.sbn) (drop n places)) (one (start_at i.oti i.sbn)) in
    not_joined p places bytes c.packet.invariant (ap (λ (q : SymbolPacket). is_done (ready_object q.oti places bytes)) c.packet.view_is ∙ c.requires.done)
    (c.in-None.ensures.first ∙ ap (position_from (λ q. q == i.esi) 0) place_is)
    ∙ ap (λ (q : SymbolPacket). finding_at (ready_object q.oti places bytes) q) c.packet.view_is
