use Rattle.std.proofs.Common.{◌+◌, ◌-◌, ◌≤◌, ◌∙◌, sym, ap, arith}
use Rattle.std.specs.List.{range_with_len}
use Rattle.carousel_cid.specs.IdentifierList.{identifiers_of}
use Rattle.carousel_cid.specs.Inner.Walks.{added_all}
use Rattle.carousel_cid.proofs.Kept.{added_all-append}
use Rattle.carousel_cid.proofs.Runs.{range_cut}
use Rattle.carousel_cid.proofs.adding.add_range.Goals as goal

pub loop-at-preserved : goal.loop-at-preserved
loop-at-preserved c =
    let old = identifiers_of c.loop-at.runs.items in
    let at = c.loop-at.at in
    let next = c.in_ok-at.at in
    let last = c.args.last in
    let on : at ≤ next = omega (arith, c.in_ok-at.ensures.on) in
    let to : next ≤ last + 1 = omega (arith, c.in_ok-at.ensures.within) in
    record {
      all = ap (λ ts. added_all ts (range_with_len next (last + 1 - next))) c.in_ok-at.ensures.ok
          ∙ sym (added_all-append old (range_with_len at (next - at)) (range_with_len next (last + 1 - next)))
          ∙ ap (added_all old) (sym (range_cut at next last on to)) ∙ c.loop-at.invariant.all;
      runs = c.in_ok-at.ensures.runs;
      seen = c.in_ok-at.ensures.seen;
    }
