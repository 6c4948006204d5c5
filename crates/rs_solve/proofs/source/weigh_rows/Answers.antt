-- At each place one more weighed byte, and one step more.
use Rattle.std.proofs.Common.{◌≡◌, ◌<◌, ℕ, length, get_or, refl, ap, ◌∙◌, arith}
use Rattle.gf256.proofs.Public.{get_or-added_row}
use Rattle.rs_code.specs.Interpolation.{field_sum}
use Rattle.rs_code.specs.SourceRows.{column, cut}
use Rattle.rs_code.specs.Weights.{weighed_bytes}
use Rattle.rs_code.proofs.Public.{weighed_more}
use Rattle.rs_solve.proofs.RowBytes.{length-row_at, byte_of_row}
use Rattle.rs_solve.proofs.source.weigh_rows.Goals as goal

pub loop-i-init : goal.loop-i-init
unfolding weighed_bytes field_sum
loop-i-init g c = record {
  long = c.fill.ensures.len ∙ c.requires.long;
  sums = λ at less.
      let within : at < length c.args.out.now = omega arith in
      c.fill.ensures.clones at 0 within refl;
  count = omega arith;
  ledger = refl;
}

pub loop-i-preserved : goal.loop-i-preserved
loop-i-preserved g c =
    let k : ℕ = length c.args.weights.now in
    let size : ℕ = c.args.size in
    let i : ℕ = c.loop-i.i in
    let by : ℕ = get_or c.args.weights.now c.loop-i.i 0 in
    let long : length c.row_of.result.now ≡ c.args.size = ap length c.row_of.ensures ∙ length-row_at k size i c.args.rows.now c.requires.rows c.loop-i-test.true in
    record {
      long = omega arith;
      sums = λ at less.
          let src : at < length c.row_of.result.now = omega arith in
          let dst : at < length c.loop-i.out = omega arith in
          weighed_more c.args.weights.now (column (cut k size c.args.rows.now) at)
          i (get_or c.loop-i.out at 0) by (get_or c.row_of.result.now at 0) (get_or c.row.new.dst at 0)
          refl (ap (λ xs. get_or xs at 0) c.row_of.ensures ∙ byte_of_row k size i at c.args.rows.now c.loop-i-test.true less) (c.loop-i.invariant.sums at less)
          (ap (λ xs. get_or xs at 0) c.row.ensures.row ∙ get_or-added_row by at c.row_of.result.now c.loop-i.out src dst);
      count = omega arith;
      ledger = c.row.ensures.ledger ∙ c.loop-i.invariant.ledger;
    }
