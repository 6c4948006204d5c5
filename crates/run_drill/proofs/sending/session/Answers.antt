use Rattle.std.proofs.Common.{◌∙◌, sym, ap, subst, length, List}
use Rattle.sender_plan.specs.CatalogInstance.{CatalogInstance}
use Rattle.sender_plan.specs.Names.{names_of}
use Rattle.sender_plan.specs.Plan.{plan_faults}
use Rattle.wire_bytes.specs.FirstFault.{first_fault}
use Rattle.run_drill.specs.Drill.{drill_params}
use Rattle.run_drill.proofs.DrillCatalog.{AreShort, texts, twelve_names, is_planned, only_memory}
use Rattle.run_drill.proofs.sending.session.Goals as goal

pub plan-requires-clause-many : goal.plan-requires-clause-many
plan-requires-clause-many c =
    c.requires.many ∙ sym (ap (λ (is : List CatalogInstance). length (names_of is)) c.in_ok-catalog.ensures ∙ twelve_names)

pub plan-requires-clause-texts : goal.plan-requires-clause-texts
plan-requires-clause-texts c = subst AreShort (sym c.in_ok-catalog.ensures) texts

pub memory-requires : goal.memory-requires
memory-requires c =
    let planned = ap (λ (is : List CatalogInstance). first_fault (plan_faults is c.args.bodies.now drill_params)) c.in_ok-catalog.ensures
    ∙ is_planned c.args.bodies.now c.requires.many c.requires.short in
    only_memory c.in-Err.fault (λ other. sym planned ∙ c.in-Err.ensures.err other)
