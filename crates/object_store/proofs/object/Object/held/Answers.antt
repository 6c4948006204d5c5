use Rattle.std.proofs.Common.{◌≡◌, ◌∙◌, sym, ap, unwrap_or}
use Rattle.object_store.specs.Inner.BlockHeld.{held_in}
use Rattle.object_store.specs.Inner.ObjectHeld.{ObjectHeld, block_at, unopened, symbols_in}
use Rattle.object_store.specs.Inner.ObjectParts.{object_of, ready_object}
use Rattle.object_store.proofs.JoinedBlocks.{symbols_when_done}
use Rattle.object_store.proofs.Stepped.{seen_as_tree, seen_as_joined}
use Rattle.object_store.proofs.WithPacket.{block_in_tree, held_is_symbols, none_in}
use Rattle.object_store.proofs.object.Object.held.Goals as goal

pub returns-then-self-eq0 : goal.returns-then-self-eq0
returns-then-self-eq0 c =
    let v = c.self.inside in
    let o = ready_object v.oti v.places.items v.bytes.items in
    let now = seen_as_joined c.args.self.now v.oti v.parts v.waiting v.places.items v.bytes.items c.self.view_is c.self.invariant c.if-self-eq0.true in
    c.size_of.ensures ∙ symbols_when_done o c.args.sbn now.1 now.2.within (now.2.most c.args.sbn)
    ∙ ap (λ (u : ObjectHeld). symbols_in u c.args.sbn) now.0

pub returns-in-Some : goal.returns-in-Some
returns-in-Some c =
    let v = c.self.inside in
    let o = object_of v.oti v.parts in
    let now = seen_as_tree c.args.self.now v.oti v.parts v.waiting v.places.items v.bytes.items c.self.view_is c.self.invariant c.if-self-eq0.false in
    let here : block_at o c.args.sbn ≡ c.in-Some.block.now = block_in_tree v.oti v.parts c.args.sbn
    ∙ ap (λ r. unwrap_or r (unopened v.oti c.args.sbn)) (sym c.in-Some.ensures.value) in
    c.len.ensures.held ∙ ap held_in (sym here) ∙ held_is_symbols o c.args.sbn (now.1.shaped c.args.sbn)
    ∙ ap (λ (u : ObjectHeld). symbols_in u c.args.sbn) now.0

pub returns-in-None : goal.returns-in-None
returns-in-None c =
    let v = c.self.inside in
    let o = object_of v.oti v.parts in
    let now = seen_as_tree c.args.self.now v.oti v.parts v.waiting v.places.items v.bytes.items c.self.view_is c.self.invariant c.if-self-eq0.false in
    let here : block_at o c.args.sbn ≡ unopened v.oti c.args.sbn = block_in_tree v.oti v.parts c.args.sbn
    ∙ ap (λ r. unwrap_or r (unopened v.oti c.args.sbn)) (sym c.in-None.ensures.value) in
    sym (none_in o c.args.sbn here) ∙ ap (λ (u : ObjectHeld). symbols_in u c.args.sbn) now.0
