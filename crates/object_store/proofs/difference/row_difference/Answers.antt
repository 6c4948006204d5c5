use Rattle.std.proofs.Common.{◌≡◌, ◌==◌, ◌<◌, ◌≤◌, ◌+◌, ℕ, Bool, List, not, Some, cond, length, get_or, drop, sym, ap, ◌∙◌, arith, true, false}
use Rattle.std.specs.List.{position_from}
use Rattle.std.proofs.lemmas.Bool.Decides.{nat_tests}
use Rattle.object_store.proofs.Differences.{next_pair, no_pair, differ, pairs}
use Rattle.object_store.proofs.difference.row_difference.Goals as goal

-- a step, with what the test of the two bytes gave
stepped : (row symbol : List ℕ) (at : ℕ) (b : Bool) → length symbol ≤ length row → at < length row → not (get_or row at 0 == get_or symbol at 0) ≡ b
    → position_from differ at (drop at (pairs row symbol)) ≡ cond b (Some at) (position_from differ (at + 1) (drop (at + 1) (pairs row symbol)))
stepped row symbol at b within less is = next_pair row symbol at within less
    ∙ ap (λ (t : Bool). cond t (Some at) (position_from differ (at + 1) (drop (at + 1) (pairs row symbol)))) is

pub returns-then-row-at : goal.returns-then-row-at
returns-then-row-at c =
    let here : not (get_or c.args.row.now c.loop-at.at 0 == get_or c.args.symbol.now c.loop-at.at 0) ≡ true =
    grind (arith, nat_tests, c.if-row-at.true, c.byte_at.ensures) in
    sym (stepped c.args.row.now c.args.symbol.now c.loop-at.at true c.requires.symbol (omega arith) here) ∙ c.loop-at.invariant

pub loop-at-preserved : goal.loop-at-preserved
loop-at-preserved c =
    let here : not (get_or c.args.row.now c.loop-at.at 0 == get_or c.args.symbol.now c.loop-at.at 0) ≡ false =
    grind (arith, nat_tests, c.if-row-at.false, c.byte_at.ensures) in
    sym (stepped c.args.row.now c.args.symbol.now c.loop-at.at false c.requires.symbol (omega arith) here) ∙ c.loop-at.invariant

pub returns : goal.returns
returns c = sym (no_pair c.args.row.now c.args.symbol.now c.loop-at.at c.requires.symbol (omega arith)) ∙ c.loop-at.invariant
