use Rattle.std.proofs.Common.{◌<◌, ◌++◌, ◌≡◌, ◌∙◌, [], cond, ap, rules, length, get_or}
use Rattle.receiver_core.specs.Inner.Waiting.{waiting_for}
use Rattle.receiver_core.proofs.Lists.{flat_more, first_time}
use Rattle.receiver_core.proofs.Maps.{taken_more}
use Rattle.receiver_core.proofs.waiting.wake_all.Goals as goal

pub loop-toi-preserved : goal.loop-toi-preserved
loop-toi-preserved c =
    let i = c.loop-toi.toi-index in
    let fresh = c.args.fresh.now in
    let less : i < length fresh = search rules in
    let t = get_or fresh i 0 in
    let same : c.taken_out-all.result.items ≡ waiting_for c.args.waiting.now t =
    c.taken_out-all.ensures.all ∙ c.loop-toi.invariant.others t
    ∙ ap (λ b. cond b [] (waiting_for c.args.waiting.now t)) (first_time fresh i less c.requires) in
    record {
      woken = flat_more (waiting_for c.args.waiting.now) fresh i 0 c.args.woken.now.items c.loop-toi.woken.items c.append.new.self.items less
          c.loop-toi.invariant.woken (c.in_ok-append.ensures.items ∙ ap (λ cs. c.loop-toi.woken.items ++ cs) same);
      others = taken_more (waiting_for c.loop-toi.waiting) (waiting_for c.taken_out-all.new.waiting) (waiting_for c.args.waiting.now) [] fresh i less
          c.loop-toi.invariant.others c.taken_out-all.ensures.others;
    }
