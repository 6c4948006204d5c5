use Rattle.std.proofs.Common.{◌∙◌, ap, sym, Some}
use Rattle.std.specs.FinMap.{get}
use Rattle.oti_blocks.specs.Partition.{ObjectInformation}
use Rattle.object_store.specs.Store as specs
use Rattle.object_store.specs.Inner.ObjectParts.{map_of}
use Rattle.object_store.proofs.WithPacket.{get_of}
use Rattle.object_store.proofs.Wholes.{information_of, information_of_none}
use Rattle.object_store.proofs.store.Store.oti.Goals as goal

pub returns-in-Some : goal.returns-in-Some
returns-in-Some c =
    let m = map_of c.self.inside.objects in
    ap (λ (o : ObjectInformation). Some o) c.oti.ensures
    ∙ sym (information_of m c.args.toi c.in-Some.object.now (get_of c.self.inside.objects c.args.toi ∙ sym c.in-Some.ensures.value))
    ∙ ap (λ (s : specs.Store). get s.held.objects c.args.toi) c.self.view_is

pub returns-in-None : goal.returns-in-None
returns-in-None c =
    let m = map_of c.self.inside.objects in
    sym (information_of_none m c.args.toi (get_of c.self.inside.objects c.args.toi ∙ sym c.in-None.ensures.value))
    ∙ ap (λ (s : specs.Store). get s.held.objects c.args.toi) c.self.view_is
