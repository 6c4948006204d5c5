use Rattle.std.proofs.Common.{◌≡◌, false, sym, ap, subst, ◌∙◌, refl, Option, Some, None}
use Rattle.std.specs.Prelude.{is_some, unwrap_or}
use Rattle.std.specs.Ordering.{nat_cmp}
use Rattle.std.specs.BTreeMap.{get, Updates}
use Rattle.object_store.specs.Inner.ObjectHeld.{ObjectHeld, new_object, with_packet}
use Rattle.object_store.specs.Inner.Objects.{object_in}
use Rattle.object_store.proofs.objects.open.Goals as goal

-- what stands in place of an object that isn't there
in_place : (r : Option ObjectHeld) (d : ObjectHeld) → is_some r ≡ false → d ≡ unwrap_or r d
in_place None d none = refl
in_place (Some x) d none = cc

pub returns-clause-ok : goal.returns-clause-ok
returns-clause-ok g c =
    let m = c.args.objects.now in
    let p = c.args.packet.now in
    let object = c.in_ok-object.object in
    let same : object ≡ with_packet (object_in m p) p =
    c.in_ok-object.ensures.ok ∙ ap (λ o. with_packet o p) (in_place (get nat_cmp m p.toi) (new_object p.oti) c.requires.closed) in
    let name = rw c.in-Vacant.is at c.in_ok-place.ensures.same_map in
    let final = c.objects-3-1.given.1 (sym name) in
    let put : Updates nat_cmp m c.objects-3-1.given.0 c.packet.inside.toi (Some object) =
    subst (λ n. Updates nat_cmp m n c.packet.inside.toi (Some object)) (sym final)
    (rw (c.insert.ensures.value, ← c.in-Vacant.is) (c.in_ok-place.ensures.update.0 object)) in
    rw (← same, ← c.packet.view_is) put
