-- One row more, which leaves those before it.
use Rattle.std.proofs.Common.{◌≡◌, ◌+◌, ◌-◌, ◌*◌, ◌<◌, ◌≤◌, ℕ, List, length, sym, ap, ◌∙◌, subst, arith, below_more}
use borrow.Rule.Slice.PartMut.{put_mid}
use Rattle.rs_solve.specs.Solution.{row_at}
use Rattle.rs_solve.specs.Inner.Values.{IsRowAt}
use Rattle.rs_solve.proofs.RowBytes.{row_within, row_before, row_here, length-put_mid}
use Rattle.rs_solve.proofs.StepCounts.{more_missing}
use Rattle.rs_solve.proofs.solver.solve_rows.Goals as goal

pub loop-m-preserved : goal.loop-m-preserved
loop-m-preserved g c =
    let size : ℕ = c.args.size in
    let at : ℕ = c.from.result in
    let block : List ℕ = c.loop-m.block in
    let row : List ℕ = c.source_row.new.out in
    let less : c.from.result < length c.args.places.now = omega arith in
    let whole : length c.loop-m.block ≡ length c.args.places.now * c.args.size = c.loop-m.invariant.whole ∙ c.requires.block ∙ c.requires.rows in
    let fits : c.from.result * c.args.size + c.args.size ≤ length c.loop-m.block = row_within (length c.args.places.now) size at (length c.loop-m.block) whole less in
    let within : c.from.result * c.args.size ≤ length c.loop-m.block = omega arith in
    let same : c.args.size ≡ c.from.result * c.args.size + c.args.size - c.from.result * c.args.size = omega arith in
    let new : List ℕ = put_mid (at * size) (at * size + size - at * size) block row in
    record {
      whole = length-put_mid (at * size) (at * size + size - at * size) block row (omega arith) (c.source_row.ensures.row.long ∙ same) ∙ c.loop-m.invariant.whole;
      rows = below_more (λ j. IsRowAt size c.args.places.now c.args.rows.now j (row_at size new j)) c.loop-m.m
          (λ j before.
          let earlier : j < c.from.result = omega arith in
          subst (λ (r : List ℕ). IsRowAt size c.args.places.now c.args.rows.now j r)
          (sym (row_before size at j (at * size + size - at * size) block row earlier within)) (c.loop-m.invariant.rows j before))
          (subst (λ (r : List ℕ). IsRowAt size c.args.places.now c.args.rows.now c.loop-m.m r)
          (sym (ap (row_at size new) (sym c.from.ensures) ∙ row_here size at block row within c.source_row.ensures.row.long)) c.source_row.ensures.row);
      count = more_missing c.args.places.now c.loop-m.m (length c.args.places.now) c.args.steps.now.count c.loop-m.steps.count c.source_row.new.steps.count
          c.loop-m.invariant.count c.source_row.ensures.count;
      ledger = c.source_row.ensures.ledger ∙ c.loop-m.invariant.ledger;
    }
