use Rattle.std.proofs.Common.{◌∙◌, ap, sym}
use Rattle.object_store.specs.Store as specs
use Rattle.held_packets.specs.Whole.{whole}
use Rattle.object_store.specs.Inner.ObjectParts.{map_of}
use Rattle.object_store.proofs.WithPacket.{get_of}
use Rattle.object_store.proofs.Wholes.{whole_of_object, whole_of_none}
use Rattle.object_store.proofs.store.Store.whole.Goals as goal

pub returns-in-Some : goal.returns-in-Some
returns-in-Some c =
    let m = map_of c.self.inside.objects in
    whole_of_object m c.args.toi c.in-Some.object.now c.whole.result c.self.invariant.pair (get_of c.self.inside.objects c.args.toi
    ∙ sym c.in-Some.ensures.value) c.whole.ensures.waits c.whole.ensures.whole
    ∙ ap (λ (s : specs.Store). whole s.held c.args.toi) c.self.view_is

pub returns-in-None : goal.returns-in-None
returns-in-None c =
    let m = map_of c.self.inside.objects in
    whole_of_none m c.args.toi (get_of c.self.inside.objects c.args.toi ∙ sym c.in-None.ensures.value)
    ∙ ap (λ (s : specs.Store). whole s.held c.args.toi) c.self.view_is
