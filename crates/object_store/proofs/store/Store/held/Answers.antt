use Rattle.std.proofs.Common.{◌∙◌, ap, sym}
use Rattle.std.specs.FinMap.{get}
use Rattle.object_store.specs.Store as specs
use Rattle.object_store.specs.Inner.ObjectParts.{map_of}
use Rattle.object_store.proofs.WithPacket.{get_of}
use Rattle.object_store.proofs.Wholes.{held_of_object, held_of_no_object}
use Rattle.object_store.proofs.store.Store.held.Goals as goal

pub returns-in-Some : goal.returns-in-Some
returns-in-Some c =
    let m = map_of c.self.inside.objects in
    c.held.ensures ∙ held_of_object m c.args.toi c.in-Some.object.now c.args.sbn (get_of c.self.inside.objects c.args.toi ∙ sym c.in-Some.ensures.value)
    ∙ ap (λ (s : specs.Store). specs.held_in_block s.held c.args.toi c.args.sbn (get s.held.objects c.args.toi)) c.self.view_is

pub returns-in-None : goal.returns-in-None
returns-in-None c =
    let m = map_of c.self.inside.objects in
    held_of_no_object m c.args.toi c.args.sbn (get_of c.self.inside.objects c.args.toi ∙ sym c.in-None.ensures.value)
    ∙ ap (λ (s : specs.Store). specs.held_in_block s.held c.args.toi c.args.sbn (get s.held.objects c.args.toi)) c.self.view_is
