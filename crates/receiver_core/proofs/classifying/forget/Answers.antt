use Rattle.std.proofs.Common.{◌<◌, rules, length, None}
use Rattle.std.specs.BTreeMap.{get}
use Rattle.std.specs.Ordering.{nat_cmp}
use Rattle.receiver_core.proofs.Maps.{updated_more}
use Rattle.receiver_core.proofs.classifying.forget.Goals as goal

pub loop-toi-preserved : goal.loop-toi-preserved
loop-toi-preserved c =
    let less : c.loop-toi.toi-index < length c.args.fresh.now = search rules in
    updated_more c.loop-toi.standings c.remove-gone.new.self (λ t. None) (λ t. get nat_cmp c.args.standings.now t)
    c.args.fresh.now c.loop-toi.toi-index less c.loop-toi.invariant c.remove-gone.ensures.updates
