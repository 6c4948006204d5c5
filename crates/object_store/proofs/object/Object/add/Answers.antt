use Rattle.std.proofs.Common.{◌+◌, ◌∙◌, ℕ, min, ap, sym, subst}
use Rattle.std.proofs.lemmas.Result.{err_from_is_err_and}
use Rattle.oti_blocks.specs.Partition.{blocks}
use Rattle.object_store.specs.Inner.ObjectHeld.{ObjectHeld, is_block_done, is_done, with_packet, steps_at, AreRowsBelow}
use Rattle.object_store.specs.Inner.ObjectParts.{object_of, AreShaped, AreWithin, IsObject}
use Rattle.object_store.proofs.WithPacket.{shaped_with, block_within}
use Rattle.object_store.proofs.Stepped.{open_to, part_has_room, step_of, within_with, holds_with, seen_with, seen_same, holds_same}
use Rattle.object_store.proofs.object.Object.add.Goals as goal

pub add_to_part-requires : goal.add_to_part-requires
add_to_part-requires g c =
    let v = c.self.inside in
    let p = c.args.packet.now in
    let seen = open_to c.args.self.now v.oti v.parts v.waiting v.places.items v.bytes.items p c.self.view_is c.self.invariant
    c.completes-object.ensures.sound c.requires in
    part_has_room v.oti v.parts p c.completes-object.ensures.sound seen.joins seen.holds.shaped

pub invariant_of-self-in_err-block : goal.invariant_of-self-in_err-block
invariant_of-self-in_err-block g c =
    let v = c.self.inside in
    holds_same v.oti v.parts c.add_to_part.new.parts v.waiting v.places.items v.bytes.items c.reserve_when.new.places.items c.reserve_when.new.bytes.items
    c.in_err-block.ensures.err c.reserve_when.ensures.places c.reserve_when.ensures.bytes c.self.invariant

pub returns-in_err-block-clause-err : goal.returns-in_err-block-clause-err
returns-in_err-block-clause-err g c =
    let v = c.self.inside in
    let p = err_from_is_err_and c.from_residual-in_err-block.result c.from_residual-in_err-block.ensures.1 in
    rw p.1 (seen_same v.oti v.parts c.add_to_part.new.parts v.waiting v.places.items v.bytes.items c.reserve_when.new.places.items c.reserve_when.new.bytes.items
    c.in_err-block.ensures.err c.reserve_when.ensures.places c.reserve_when.ensures.bytes ∙ c.self.view_is)

pub fewer-self-inside-requires : goal.fewer-self-inside-requires
fewer-self-inside-requires g c block =
    let v = c.self.inside in
    let p = c.args.packet.now in
    let seen = open_to c.args.self.now v.oti v.parts v.waiting v.places.items v.bytes.items p c.self.view_is c.self.invariant
    c.completes-object.ensures.sound c.requires in
    seen.waits

pub join_when-requires-clause-shaped : goal.join_when-requires-clause-shaped
join_when-requires-clause-shaped g c =
    let v = c.self.inside in
    let p = c.args.packet.now in
    let seen = open_to c.args.self.now v.oti v.parts v.waiting v.places.items v.bytes.items p c.self.view_is c.self.invariant
    c.completes-object.ensures.sound c.requires in
    let step = step_of v.oti v.parts c.add_to_part.new.parts p seen.joins seen.holds.shaped c.in_ok-block.ensures.ok in
    subst AreShaped (sym step.new) (shaped_with (object_of v.oti v.parts) p seen.holds.shaped)

pub join_when-requires-clause-within : goal.join_when-requires-clause-within
join_when-requires-clause-within g c =
    let v = c.self.inside in
    let p = c.args.packet.now in
    let seen = open_to c.args.self.now v.oti v.parts v.waiting v.places.items v.bytes.items p c.self.view_is c.self.invariant
    c.completes-object.ensures.sound c.requires in
    let step = step_of v.oti v.parts c.add_to_part.new.parts p seen.joins seen.holds.shaped c.in_ok-block.ensures.ok in
    subst AreWithin (sym step.new) (within_with (object_of v.oti v.parts) p (block_within (object_of v.oti v.parts) p
    c.completes-object.ensures.sound seen.joins.same) seen.holds.within)

pub join_when-requires-clause-done : goal.join_when-requires-clause-done
join_when-requires-clause-done g c =
    let v = c.self.inside in
    let p = c.args.packet.now in
    let seen = open_to c.args.self.now v.oti v.parts v.waiting v.places.items v.bytes.items p c.self.view_is c.self.invariant
    c.completes-object.ensures.sound c.requires in
    let step = step_of v.oti v.parts c.add_to_part.new.parts p seen.joins seen.holds.shaped c.in_ok-block.ensures.ok in
    c.completes-object.ensures.ready ∙ ap (λ (u : ObjectHeld). is_done (with_packet u p)) (sym seen.view) ∙ ap is_done (sym step.new)

pub join_when-requires-clause-none_placed : goal.join_when-requires-clause-none_placed
join_when-requires-clause-none_placed g c object =
    let v = c.self.inside in
    let p = c.args.packet.now in
    let seen = open_to c.args.self.now v.oti v.parts v.waiting v.places.items v.bytes.items p c.self.view_is c.self.invariant
    c.completes-object.ensures.sound c.requires in
    c.reserve_when.ensures.places ∙ seen.none_placed

pub join_when-requires-clause-none_joined : goal.join_when-requires-clause-none_joined
join_when-requires-clause-none_joined g c object =
    let v = c.self.inside in
    let p = c.args.packet.now in
    let seen = open_to c.args.self.now v.oti v.parts v.waiting v.places.items v.bytes.items p c.self.view_is c.self.invariant
    c.completes-object.ensures.sound c.requires in
    c.reserve_when.ensures.bytes ∙ seen.none_joined

pub join_when-requires-clause-room_placed : goal.join_when-requires-clause-room_placed
join_when-requires-clause-room_placed g c object =
    let v = c.self.inside in
    let p = c.args.packet.now in
    let seen = open_to c.args.self.now v.oti v.parts v.waiting v.places.items v.bytes.items p c.self.view_is c.self.invariant
    c.completes-object.ensures.sound c.requires in
    c.in_ok-reserve_when.ensures.room_placed object seen.none_placed

pub join_when-requires-clause-room_joined : goal.join_when-requires-clause-room_joined
join_when-requires-clause-room_joined g c object =
    let v = c.self.inside in
    let p = c.args.packet.now in
    let seen = open_to c.args.self.now v.oti v.parts v.waiting v.places.items v.bytes.items p c.self.view_is c.self.invariant
    c.completes-object.ensures.sound c.requires in
    c.in_ok-reserve_when.ensures.room_joined object seen.none_joined

pub invariant_of-self-2 : goal.invariant_of-self-2
invariant_of-self-2 g c =
    let v = c.self.inside in
    let p = c.args.packet.now in
    let seen = open_to c.args.self.now v.oti v.parts v.waiting v.places.items v.bytes.items p c.self.view_is c.self.invariant
    c.completes-object.ensures.sound c.requires in
    let step = step_of v.oti v.parts c.add_to_part.new.parts p seen.joins seen.holds.shaped c.in_ok-block.ensures.ok in
    let object_is = c.completes-object.ensures.ready ∙ ap (λ (u : ObjectHeld). is_done (with_packet u p)) (sym seen.view) in
    let holds = holds_with (object_of v.oti v.parts) p v.waiting c.fewer-self-inside.result v.places.items v.bytes.items
    c.join_when.new.places.items c.join_when.new.bytes.items c.in_ok-block.block c.completes-object.result v.parts c.join_when.new.parts
    seen.holds c.completes-object.ensures.sound seen.joins (c.in_ok-block.ensures.full ∙ step.full) c.fewer-self-inside.ensures object_is
    (λ f. c.join_when.ensures.same_places f ∙ c.reserve_when.ensures.places)
    (λ f. c.join_when.ensures.same_bytes f ∙ c.reserve_when.ensures.bytes)
    c.join_when.ensures.placed
    (λ t. subst (λ (u : ObjectHeld). AreRowsBelow u (blocks v.oti) c.join_when.new.bytes.items) step.new (c.join_when.ensures.joined t))
    c.join_when.ensures.released in
    let is = seen_with (with_packet (object_of v.oti v.parts) p) v.oti c.add_to_part.new.parts c.join_when.new.parts c.fewer-self-inside.result
    c.join_when.new.places.items c.join_when.new.bytes.items c.completes-object.result holds.counted object_is step.new
    c.join_when.ensures.same_parts c.join_when.ensures.parts in
    subst (λ (u : ObjectHeld). IsObject u c.fewer-self-inside.result c.join_when.new.places.items c.join_when.new.bytes.items c.join_when.new.parts) (sym is) holds

pub returns-clause-ok : goal.returns-clause-ok
returns-clause-ok g c =
    let v = c.self.inside in
    let p = c.args.packet.now in
    let seen = open_to c.args.self.now v.oti v.parts v.waiting v.places.items v.bytes.items p c.self.view_is c.self.invariant
    c.completes-object.ensures.sound c.requires in
    let step = step_of v.oti v.parts c.add_to_part.new.parts p seen.joins seen.holds.shaped c.in_ok-block.ensures.ok in
    let object_is = c.completes-object.ensures.ready ∙ ap (λ (u : ObjectHeld). is_done (with_packet u p)) (sym seen.view) in
    let holds = holds_with (object_of v.oti v.parts) p v.waiting c.fewer-self-inside.result v.places.items v.bytes.items
    c.join_when.new.places.items c.join_when.new.bytes.items c.in_ok-block.block c.completes-object.result v.parts c.join_when.new.parts
    seen.holds c.completes-object.ensures.sound seen.joins (c.in_ok-block.ensures.full ∙ step.full) c.fewer-self-inside.ensures object_is
    (λ f. c.join_when.ensures.same_places f ∙ c.reserve_when.ensures.places)
    (λ f. c.join_when.ensures.same_bytes f ∙ c.reserve_when.ensures.bytes)
    c.join_when.ensures.placed
    (λ t. subst (λ (u : ObjectHeld). AreRowsBelow u (blocks v.oti) c.join_when.new.bytes.items) step.new (c.join_when.ensures.joined t))
    c.join_when.ensures.released in
    let is = seen_with (with_packet (object_of v.oti v.parts) p) v.oti c.add_to_part.new.parts c.join_when.new.parts c.fewer-self-inside.result
    c.join_when.new.places.items c.join_when.new.bytes.items c.completes-object.result holds.counted object_is step.new
    c.join_when.ensures.same_parts c.join_when.ensures.parts in
    is ∙ ap (λ (u : ObjectHeld). with_packet u p) seen.view

pub returns-clause-block : goal.returns-clause-block
returns-clause-block g c =
    let v = c.self.inside in
    let p = c.args.packet.now in
    let seen = open_to c.args.self.now v.oti v.parts v.waiting v.places.items v.bytes.items p c.self.view_is c.self.invariant
    c.completes-object.ensures.sound c.requires in
    let step = step_of v.oti v.parts c.add_to_part.new.parts p seen.joins seen.holds.shaped c.in_ok-block.ensures.ok in
    c.in_ok-block.ensures.full ∙ step.full ∙ ap (λ (u : ObjectHeld). is_block_done (with_packet u p) p.sbn) seen.view

pub returns-clause-count : goal.returns-clause-count
returns-clause-count g c =
    let v = c.self.inside in
    let p = c.args.packet.now in
    let seen = open_to c.args.self.now v.oti v.parts v.waiting v.places.items v.bytes.items p c.self.view_is c.self.invariant
    c.completes-object.ensures.sound c.requires in
    let step = step_of v.oti v.parts c.add_to_part.new.parts p seen.joins seen.holds.shaped c.in_ok-block.ensures.ok in
    c.in_ok-block.ensures.count ∙ ap (λ (m : ℕ). min (c.args.steps.now.count + m) 18446744073709551615)
    (step.steps ∙ ap (λ (u : ObjectHeld). steps_at (with_packet u p) p.sbn) seen.view)
