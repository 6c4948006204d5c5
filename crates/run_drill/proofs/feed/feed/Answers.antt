use Rattle.std.proofs.Common.{rules, ◌≡◌, ◌+◌, ◌∷◌, ◌++◌, [], ℕ, List, take, sym, ap, ◌∙◌, min, ◌-◌, ◌^◌}
use Rattle.std.proofs.lemmas.List.{take_more}
use Rattle.held_packets.specs.Verdict.{steps_of}
use Rattle.receiver_core.specs.Classes.{packets_of}
use Rattle.run_drill.proofs.DrillTaking.{steps_more_are}
use Rattle.run_drill.proofs.feed.feed.Goals as goal

pub loop-datagram-preserved : goal.loop-datagram-preserved
loop-datagram-preserved g c =
    let all = c.args.datagrams.now in
    let i = c.loop-datagram.datagram-index in
    let more : take (i + 1) all ≡ take i all ++ c.as_slice.result.now ∷ [] =
    take_more all i c.datagram-item.result c.loop-datagram-test.true ∙ ap (λ x. take i all ++ x ∷ []) (sym c.datagram-item.is ∙ sym c.as_slice.ensures) in
    record {
      tsi = c.in_ok-feed_one.ensures.tsi;
      budget = c.in_ok-feed_one.ensures.budget;
      few = search rules;
      count = steps_more_are c.loop-datagram.receiver c.args.steps.now.count c.loop-datagram.steps.count c.feed_one.new.steps.count c.as_slice.result.now
          (take i all) c.loop-datagram.invariant.tsi c.loop-datagram.invariant.budget c.loop-datagram.invariant.taken
          c.loop-datagram.invariant.count c.in_ok-feed_one.ensures.count
          ∙ ap (λ (ds : List (List ℕ)). min (c.args.steps.now.count + steps_of 67108864 (packets_of 1 ds)) (2 ^ 64 - 1)) (sym more);
      taken = search rules;
    }
