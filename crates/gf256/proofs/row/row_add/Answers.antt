-- Sixteen elements more are added, and then one more at a turn.
use Rattle.std.proofs.Common.{◌≡◌, ◌+◌, ℕ, List, length, get_or, take, set, map, bit_xor, sym, ap, ◌∙◌, arith, add-one, length-set}
use lib.Lanes.{chunk, put_chunk, zip2}
use Rattle.gf256.specs.Field.{product}
use Rattle.gf256.specs.Row.{added_row}
use Rattle.gf256.proofs.RowSteps.{added_row_more, added_row_chunk}
use Rattle.gf256.proofs.Horner.{length-added_row}
use Rattle.gf256.proofs.row.row_add.Goals as goal

pub loop-dst-preserved : goal.loop-dst-preserved
loop-dst-preserved c =
    let b = c.loop-dst in
    let by : ℕ = c.args.by.0 in
    let src : List ℕ = c.args.src.now in
    let len : length b.dst ≡ length c.args.dst.now = ap length b.invariant.sums ∙ length-added_row by (take b.at src) c.args.dst.now in
    record {
      sums = c.add_lanes.ensures by (omega arith) (record { low = c.low_products-low.ensures; high = c.high_products-high.ensures })
          ∙ ap (λ xs. put_chunk b.at xs (zip2 bit_xor (chunk b.at 16 xs) (map (product by) (chunk b.at 16 src)))) b.invariant.sums
          ∙ added_row_chunk by b.at 16 (b.at + 16) src c.args.dst.now (omega arith) (omega arith) (omega arith);
      within = omega arith;
    }

pub loop-at-preserved : goal.loop-at-preserved
loop-at-preserved c =
    let b = c.loop-at in
    let by : ℕ = c.args.by.0 in
    let src : List ℕ = c.args.src.now in
    let len : length b.dst ≡ length c.args.dst.now = ap length b.invariant.sums ∙ length-added_row by (take b.at src) c.args.dst.now in
    record {
      sums = ap (λ v. set b.dst b.at v) (c.add.ensures ∙ ap (bit_xor (get_or b.dst b.at 0)) c.mul.ensures)
          ∙ ap (λ xs. set xs b.at (bit_xor (get_or xs b.at 0) (product by (get_or src b.at 0)))) b.invariant.sums
          ∙ added_row_more by b.at src c.args.dst.now (omega arith) (omega arith)
          ∙ ap (λ n. added_row by (take n src) c.args.dst.now) (sym (add-one b.at));
      within = omega (arith, length-set b.dst b.at c.add.result.0);
    }
