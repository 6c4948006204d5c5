use Rattle.std.proofs.Common.{rules, ◌≤◌, sym, subst, ℕ}
use Rattle.object_store.specs.Inner.ObjectHeld.{ObjectHeld}
use Rattle.object_store.specs.Inner.ObjectParts.{IsObject}
use Rattle.object_store.proofs.NewObject.{new_object_holds, new_object_seen}
use Rattle.object_store.proofs.object.Object.new.Goals as goal

pub invariant_of-result : goal.invariant_of-result
invariant_of-result c =
    subst (λ (o : ObjectHeld). IsObject o c.blocks-2.result c.new-2.result.items c.new-3.result.items c.new.result)
    (sym (new_object_seen c.args.oti c.new.result c.blocks-2.result c.new-2.result.items c.new-3.result.items c.blocks-2.ensures.some (search rules)))
    (new_object_holds c.args.oti c.blocks-2.result c.new-2.result.items c.new-3.result.items c.new.result
    c.blocks-2.ensures.sound (subst (λ (n : ℕ). 1 ≤ n) c.blocks-2.ensures.value c.blocks-2.ensures.some) c.blocks-2.ensures.value c.new-2.ensures.items
    c.new-3.ensures.items)

pub returns : goal.returns
returns c = new_object_seen c.args.oti c.new.result c.blocks-2.result c.new-2.result.items c.new-3.result.items c.blocks-2.ensures.some (search rules)
