use Rattle.std.proofs.Common.{◌∙◌, ap}
use Rattle.sender_plan.specs.CatalogInstance.{CatalogInstance}
use Rattle.run_drill.proofs.DrillCatalog.{items_more}
use Rattle.run_drill.proofs.catalog.instance.Goals as goal

pub loop-place-preserved : goal.loop-place-preserved
loop-place-preserved c =
    let now = c.loop-place in
    record {
      number = ap (λ (i : CatalogInstance). i.number) c.in_ok-push.ensures.ok ∙ now.invariant.number;
      items = items_more c.args.first now.place now.instance.items c.push.new.self.items c.in_ok-item.field-0
          now.invariant.items c.in_ok-item.ensures (ap (λ (i : CatalogInstance). i.items) c.in_ok-push.ensures.ok);
    }
