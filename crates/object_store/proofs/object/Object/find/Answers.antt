use Rattle.std.proofs.Common.{◌≡◌, ◌*◌, ◌∙◌, ℕ, length, sym, ap, arith, unwrap_or}
use Rattle.oti_blocks.specs.Partition.{ObjectInformation, sources, symbol_of}
use Rattle.oti_blocks.proofs.Public.{start_last}
use Rattle.alc_packet.specs.Packet.{SymbolPacket}
use Rattle.object_store.specs.Inner.BlockHeld.{BlockHeld, finding_in}
use Rattle.object_store.specs.Inner.ObjectHeld.{ObjectHeld, block_at, unopened, is_done, finding_at}
use Rattle.object_store.specs.Inner.ObjectParts.{object_of, ready_object}
use Rattle.object_store.proofs.Stepped.{seen_as_tree, seen_as_joined}
use Rattle.object_store.proofs.WithPacket.{block_in_tree, found_in_object, nothing_in_object, symbol_within}
use Rattle.object_store.proofs.object.Object.find.Goals as goal

pub find-requires : goal.find-requires
find-requires c =
    let v = c.self.inside in
    let i = c.packet.inside in
    let p : SymbolPacket = record { tsi = i.tsi; toi = i.toi; oti = i.oti; sbn = i.sbn; esi = i.esi; symbol = i.symbol.now; close = i.close } in
    let o = object_of v.oti v.parts in
    let now = seen_as_tree c.args.self.now v.oti v.parts v.waiting v.places.items v.bytes.items c.self.view_is c.self.invariant c.if-self-eq0.false in
    let same : o.oti ≡ p.oti = ap (λ (u : ObjectHeld). u.oti) now.0 ∙ c.requires ∙ sym (ap (λ (q : SymbolPacket). q.oti) c.packet.view_is) in
    let here : block_at o p.sbn ≡ c.in-Some.block.now = block_in_tree v.oti v.parts p.sbn ∙ ap (λ r. unwrap_or r (unopened v.oti p.sbn)) (sym c.in-Some.ensures.value) in
    omega (
      arith,
      symbol_within p c.packet.invariant,
      ap (λ (h : BlockHeld). h.size) here,
      (now.1.shaped p.sbn).size,
      ap (λ (u : ObjectInformation). symbol_of u) same,
    )

pub returns-in-Some : goal.returns-in-Some
returns-in-Some c =
    let v = c.self.inside in
    let i = c.packet.inside in
    let p : SymbolPacket = record { tsi = i.tsi; toi = i.toi; oti = i.oti; sbn = i.sbn; esi = i.esi; symbol = i.symbol.now; close = i.close } in
    let o = object_of v.oti v.parts in
    let now = seen_as_tree c.args.self.now v.oti v.parts v.waiting v.places.items v.bytes.items c.self.view_is c.self.invariant c.if-self-eq0.false in
    let same : o.oti ≡ p.oti = ap (λ (u : ObjectHeld). u.oti) now.0 ∙ c.requires ∙ sym (ap (λ (q : SymbolPacket). q.oti) c.packet.view_is) in
    let here : block_at o p.sbn ≡ c.in-Some.block.now = block_in_tree v.oti v.parts p.sbn ∙ ap (λ r. unwrap_or r (unopened v.oti p.sbn)) (sym c.in-Some.ensures.value) in
    c.find.ensures ∙ ap (λ (h : BlockHeld). finding_in h p.esi p.symbol) (sym here) ∙ found_in_object o p same (now.1.shaped p.sbn)
    ∙ ap (λ (u : ObjectHeld). finding_at u p) now.0 ∙ ap (finding_at c.args.self.now) c.packet.view_is

pub returns-in-None : goal.returns-in-None
returns-in-None c =
    let v = c.self.inside in
    let i = c.packet.inside in
    let p : SymbolPacket = record { tsi = i.tsi; toi = i.toi; oti = i.oti; sbn = i.sbn; esi = i.esi; symbol = i.symbol.now; close = i.close } in
    let o = object_of v.oti v.parts in
    let now = seen_as_tree c.args.self.now v.oti v.parts v.waiting v.places.items v.bytes.items c.self.view_is c.self.invariant c.if-self-eq0.false in
    let same : o.oti ≡ p.oti = ap (λ (u : ObjectHeld). u.oti) now.0 ∙ c.requires ∙ sym (ap (λ (q : SymbolPacket). q.oti) c.packet.view_is) in
    let here : block_at o p.sbn ≡ unopened v.oti p.sbn = block_in_tree v.oti v.parts p.sbn ∙ ap (λ r. unwrap_or r (unopened v.oti p.sbn)) (sym c.in-None.ensures.value) in
    nothing_in_object o p c.packet.invariant same here
    ∙ ap (λ (u : ObjectHeld). finding_at u p) now.0 ∙ ap (finding_at c.args.self.now) c.packet.view_is

pub find_joined-requires-clause-done : goal.find_joined-requires-clause-done
find_joined-requires-clause-done c =
    let v = c.self.inside in
    let now = seen_as_joined c.args.self.now v.oti v.parts v.waiting v.places.items v.bytes.items c.self.view_is c.self.invariant c.if-self-eq0.true in
    let same : v.oti ≡ c.args.packet.now.oti = ap (λ (u : ObjectHeld). u.oti) now.0 ∙ c.requires in
    sym (λ i. is_done (ready_object (same i) (sym c.as_slice.ensures.value i) (sym c.as_slice-then-self-eq0.ensures.value i))) ∙ now.1

pub find_joined-requires-clause-places : goal.find_joined-requires-clause-places
find_joined-requires-clause-places c =
    let v = c.self.inside in
    let now = seen_as_joined c.args.self.now v.oti v.parts v.waiting v.places.items v.bytes.items c.self.view_is c.self.invariant c.if-self-eq0.true in
    let same : v.oti ≡ c.args.packet.now.oti = ap (λ (u : ObjectHeld). u.oti) now.0 ∙ c.requires in
    ap length c.as_slice.ensures.value ∙ now.2.placed now.1 ∙ ap sources same

pub find_joined-requires-clause-bytes : goal.find_joined-requires-clause-bytes
find_joined-requires-clause-bytes c =
    let v = c.self.inside in
    let now = seen_as_joined c.args.self.now v.oti v.parts v.waiting v.places.items v.bytes.items c.self.view_is c.self.invariant c.if-self-eq0.true in
    let same : v.oti ≡ c.args.packet.now.oti = ap (λ (u : ObjectHeld). u.oti) now.0 ∙ c.requires in
    ap length c.as_slice-then-self-eq0.ensures.value ∙ (now.2.joined now.1).long ∙ ap (λ (n : ℕ). n * symbol_of v.oti) (start_last v.oti now.2.sound)
    ∙ ap (λ (o : ObjectInformation). sources o * symbol_of o) same

pub returns-then-self-eq0 : goal.returns-then-self-eq0
returns-then-self-eq0 c =
    let v = c.self.inside in
    let now = seen_as_joined c.args.self.now v.oti v.parts v.waiting v.places.items v.bytes.items c.self.view_is c.self.invariant c.if-self-eq0.true in
    let same : v.oti ≡ c.args.packet.now.oti = ap (λ (u : ObjectHeld). u.oti) now.0 ∙ c.requires in
    c.find_joined.ensures
    ∙ sym (λ i. finding_at (ready_object (same i) (sym c.as_slice.ensures.value i) (sym c.as_slice-then-self-eq0.ensures.value i)) c.args.packet.now)
    ∙ ap (λ (u : ObjectHeld). finding_at u c.args.packet.now) now.0
