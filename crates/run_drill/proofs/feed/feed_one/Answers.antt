use Rattle.std.proofs.Common.{◌∙◌, sym, ap, inr}
use Rattle.receiver_core.specs.BestOf.{best}
use Rattle.receiver_core.specs.Classes.{drops_with}
use Rattle.run_drill.proofs.DrillTaking.{held_more_is}
use Rattle.run_base.proofs.Public.{on_error}
use Rattle.run_receive.proofs.Public.{one_more}
use Rattle.run_drill.proofs.feed.feed_one.Goals as goal

pub returns-in_err-settle-clause-part : goal.returns-in_err-settle-clause-part
returns-in_err-settle-clause-part g c = on_error c.from_residual-in_err-settle.result _ (λ ds has.
    inr (held_more_is c.args.receiver.now c.settle.new.self.held c.args.datagram.now ds c.requires.tsi c.requires.budget has
    (c.in_err-settle.ensures.held ∙ c.in_ok-take.ensures.held)))

pub returns-clause-taken : goal.returns-clause-taken
returns-clause-taken g c =
    let taken = c.in_ok-take.ensures in
    let settled = c.in_ok-settle.ensures in
    λ ds few has. one_more c.args.receiver.now c.settle.new.self c.args.datagram.now ds (record {
      tsi = settled.tsi ∙ taken.tsi;
      budget = settled.budget ∙ taken.budget;
      held = settled.held ∙ taken.held;
      drops = settled.drops ∙ (taken.drops ∙ ap (drops_with c.args.receiver.now.drops) taken.answer);
      installed = settled.best ∙ ap best (sym settled.held);
    }) few has
