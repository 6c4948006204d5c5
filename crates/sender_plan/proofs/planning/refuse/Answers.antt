use Rattle.std.proofs.Common.{arith}
use Rattle.sender_plan.proofs.Planned.{none_checked, few_files, few_names}
use Rattle.sender_plan.proofs.planning.refuse.Goals as goal

pub total_len-requires-clause-many : goal.total_len-requires-clause-many
total_len-requires-clause-many c =
    let instances = c.args.catalog.now in
    let checked = none_checked instances c.args.params.now c.in_ok-check.ensures.ok in
    omega (arith, c.requires.many, few_names instances (few_files 1 instances checked.few) c.check.ensures.few)
