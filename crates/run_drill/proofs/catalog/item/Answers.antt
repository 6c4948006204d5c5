use Rattle.run_drill.proofs.DrillCatalog.{is_item}
use Rattle.run_drill.proofs.catalog.item.Goals as goal

pub new-requires : goal.new-requires
new-requires c = is_item c.args.file c.in_ok-name.name c.in_ok-location.location c.requires c.in_ok-location.ensures
