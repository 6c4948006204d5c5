use Rattle.std.proofs.Common.{◌+◌, ◌-◌, ◌≤◌, ◌∷◌, [], ◌++◌, ◌∙◌, sym, ap, rules, append_assoc}
use Rattle.std.specs.List.{range_with_len}
use Rattle.carousel_cid.proofs.Runs.{range_starts}
use Rattle.carousel_cid.proofs.listed.push_all.Goals as goal

pub loop-toi-preserved : goal.loop-toi-preserved
loop-toi-preserved c =
    let toi = c.loop-toi.toi in
    let last = c.args.run.last in
    let within : toi ≤ last = search rules in
    record {
      all = ap (λ ts. ts ++ range_with_len (toi + 1) (last + 1 - (toi + 1))) c.in_ok-push.ensures.items
          ∙ append_assoc c.loop-toi.all.items (toi ∷ []) (range_with_len (toi + 1) (last + 1 - (toi + 1)))
          ∙ ap (λ ts. c.loop-toi.all.items ++ ts) (sym (range_starts toi last within)) ∙ c.loop-toi.invariant.all;
    }
