use Rattle.std.proofs.Common.{◌<◌, cond, ◌∙◌, ap, rules, length}
use Rattle.std.specs.Prelude.{option_map}
use Rattle.std.specs.BTreeMap.{get}
use Rattle.std.specs.Ordering.{nat_cmp}
use Rattle.held_packets.specs.Whole.{whole}
use Rattle.receiver_core.specs.Inner.Candidates.{candidates_at}
use Rattle.receiver_core.specs.Inner.Standings.{standing_of_bytes}
use Rattle.receiver_core.proofs.Lists.{flat_more, not_in_front}
use Rattle.receiver_core.proofs.Finding.{on_err_any}
use Rattle.receiver_core.proofs.Maps.{updated_more}
use Rattle.receiver_core.proofs.classifying.classify_all.Goals as goal

pub loop-toi-preserved : goal.loop-toi-preserved
loop-toi-preserved c =
    let less : c.loop-toi.toi-index < length c.args.fresh.now = search rules in
    record {
      standings = updated_more c.loop-toi.standings c.classify_at.new.standings (λ t. option_map standing_of_bytes (whole c.args.store.now.held t))
          (λ t. get nat_cmp c.args.standings.now t)
          c.args.fresh.now c.loop-toi.toi-index less c.loop-toi.invariant.standings c.in_ok-classify_at.ensures.standing;
      candidates = flat_more (candidates_at (whole c.args.store.now.held)) c.args.fresh.now c.loop-toi.toi-index 0
          c.args.candidates.now.items c.loop-toi.candidates.items c.classify_at.new.candidates.items
          less c.loop-toi.invariant.candidates c.in_ok-classify_at.ensures.candidates;
    }

pub returns-in_err-classify_at-clause-others : goal.returns-in_err-classify_at-clause-others
returns-in_err-classify_at-clause-others c = on_err_any c.from_residual.result (λ t other.
    c.in_err-classify_at.ensures.same t ∙ c.loop-toi.invariant.standings t
    ∙ ap (λ b. cond b (option_map standing_of_bytes (whole c.args.store.now.held t)) (get nat_cmp c.args.standings.now t))
    (not_in_front c.loop-toi.toi-index c.args.fresh.now t other))
