use Rattle.std.proofs.Common.{◌+◌, ◌∙◌, ℕ, nat_eq, ap, sym, subst, arith}
use Rattle.oti_blocks.specs.Partition.{ObjectInformation, size_at}
use Rattle.oti_blocks.proofs.Public.{size_bounds}
use Rattle.alc_packet.specs.Packet.{SymbolPacket}
use Rattle.object_store.specs.Inner.ObjectHeld.{ObjectHeld, symbols_in, is_done, with_packet, Joins}
use Rattle.object_store.specs.Inner.ObjectParts.{object_seen}
use Rattle.object_store.proofs.WithPacket.{ready_where_one_waits, not_ready_where_more_wait}
use Rattle.object_store.proofs.object.Object.completes.Goals as goal

pub overflow_add-result : goal.overflow_add-result
overflow_add-result c =
    let i = c.packet.inside in
    let p : SymbolPacket = record { tsi = i.tsi; toi = i.toi; oti = i.oti; sbn = i.sbn; esi = i.esi; symbol = i.symbol.now; close = i.close } in
    let joins = subst (Joins c.args.self.now) (sym c.packet.view_is) c.requires in
    let sound = c.packet.invariant.sound in
    let most = (size_bounds p.oti sound p.sbn c.packet.invariant.block).1 in
    omega (arith, joins.wanting, ap (λ (u : ObjectInformation). size_at u p.sbn) joins.same, most, sound.block_within, sound.max_n_fits, c.held.ensures)

pub returns-then-self-eq1-clause-ready : goal.returns-then-self-eq1-clause-ready
returns-then-self-eq1-clause-ready c =
    let v = c.self.inside in
    let i = c.packet.inside in
    let p : SymbolPacket = record { tsi = i.tsi; toi = i.toi; oti = i.oti; sbn = i.sbn; esi = i.esi; symbol = i.symbol.now; close = i.close } in
    let o = object_seen v.oti v.parts v.waiting v.places.items v.bytes.items in
    let joins : Joins o p = subst (λ (u : ObjectHeld). Joins u p) (sym c.self.view_is) (subst (Joins c.args.self.now) (sym c.packet.view_is) c.requires) in
    ap (λ (m : ℕ). nat_eq (m + 1) c.block_k.result) (c.held.ensures ∙ ap (λ (u : ObjectHeld). symbols_in u p.sbn) (sym c.self.view_is))
    ∙ ap (nat_eq (symbols_in o p.sbn + 1)) (c.block_k.ensures.value ∙ ap (λ (u : ObjectInformation). size_at u p.sbn) (sym joins.same))
    ∙ ready_where_one_waits o p v.waiting c.self.invariant.counted c.packet.invariant joins c.if-self-eq1.true
    ∙ ap (λ (u : ObjectHeld). is_done (with_packet u p)) c.self.view_is ∙ ap (λ (q : SymbolPacket). is_done (with_packet c.args.self.now q)) c.packet.view_is

pub returns-else-self-eq1-clause-ready : goal.returns-else-self-eq1-clause-ready
returns-else-self-eq1-clause-ready c =
    let v = c.self.inside in
    let i = c.packet.inside in
    let p : SymbolPacket = record { tsi = i.tsi; toi = i.toi; oti = i.oti; sbn = i.sbn; esi = i.esi; symbol = i.symbol.now; close = i.close } in
    let o = object_seen v.oti v.parts v.waiting v.places.items v.bytes.items in
    let joins : Joins o p = subst (λ (u : ObjectHeld). Joins u p) (sym c.self.view_is) (subst (Joins c.args.self.now) (sym c.packet.view_is) c.requires) in
    not_ready_where_more_wait o p v.waiting c.self.invariant.counted c.packet.invariant joins c.if-self-eq1.false
    ∙ ap (λ (u : ObjectHeld). is_done (with_packet u p)) c.self.view_is ∙ ap (λ (q : SymbolPacket). is_done (with_packet c.args.self.now q)) c.packet.view_is
