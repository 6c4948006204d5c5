use Rattle.std.proofs.Common.{◌∙◌, ap}
use Rattle.run_drill.specs.Drill.{sent, after_bodies}
use Rattle.run_drill.proofs.DrillTaking.{are_deliveries}
use Rattle.run_drill.proofs.command.deliveries.Goals as goal

pub returns-clause-datagrams : goal.returns-clause-datagrams
returns-clause-datagrams c =
    let made = c.in_ok-sent.ensures in
    are_deliveries c.args.start c.sent.new.generator.state c.as_slice.result.now c.in_ok-datagrams.datagrams.items
    (c.as_slice.ensures.value ∙ made.sent ∙ ap sent c.new-generator.ensures) (made.state ∙ ap (after_bodies 12) c.new-generator.ensures) c.in_ok-datagrams.ensures
