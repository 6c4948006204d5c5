-- At each place one more weighed byte, and at the end the symbol.
use Rattle.std.proofs.Common.{◌≡◌, ◌<◌, ◌+◌, ◌-◌, ℕ, List, length, get_or, take, drop, refl, ap, ◌∙◌, arith, get_or-take, get_or-drop}
use Rattle.std.proofs.lemmas.List.{length-take, length-drop}
use Rattle.gf256.proofs.Public.{get_or-added_row}
use Rattle.rs_code.specs.Interpolation.{field_sum}
use Rattle.rs_code.specs.SourceRows.{column, rows_of}
use Rattle.rs_code.specs.Weights.{weighed_bytes}
use Rattle.rs_code.proofs.Weighing.{weighed_more}
use Rattle.rs_code.proofs.BlockSymbols.{weighed_is_symbol}
use Rattle.rs_code.proofs.symbol.weigh_rows.Goals as goal

pub overflow_add-end : goal.overflow_add-end
overflow_add-end c = omega (arith, c.requires.part, c.size-size.ensures, c.size-size.type_inv)

pub loop-i-init : goal.loop-i-init
unfolding weighed_bytes field_sum
loop-i-init c = record {
  full = c.fill.ensures.len;
  sums = λ at less. c.fill.ensures.clones at 0 less refl;
}

pub loop-i-preserved : goal.loop-i-preserved
loop-i-preserved c =
    let w : List ℕ = c.args.weights.now in
    let start : ℕ = c.args.start in
    let n : ℕ = start + length c.args.out.now - start in
    let row : List ℕ = c.row.result.now in
    let src : List ℕ = take n (drop start row) in
    let by : ℕ = get_or w c.from.result 0 in
    let long : length src ≡ length c.args.out.now = omega (arith, length-take n (drop start row), length-drop start row, c.row.ensures.len, c.requires.part) in
    record {
      full = omega arith;
      sums = λ at less.
          let inside : start + at < c.args.block.now.size = omega (arith, less, c.requires.part) in
          let within : at < length c.loop-i.out = omega (arith, less, c.loop-i.invariant.full) in
          let byte_is = get_or-take n (drop start row) at 0 (omega (arith, less)) ∙ get_or-drop start row at 0 ∙ c.row.ensures.bytes (start + at) inside in
          weighed_more w (column (rows_of c.args.block.now) (start + at)) c.loop-i.i (get_or c.loop-i.out at 0) by (get_or src at 0) (get_or c.row_add.new.dst at 0)
          (ap (λ i. get_or w i 0) c.from.ensures) byte_is (c.loop-i.invariant.sums at less)
          (ap (λ xs. get_or xs at 0) c.row_add.ensures ∙ get_or-added_row by at src c.loop-i.out (omega (arith, less, long)) within);
    }

pub returns-clause-symbols : goal.returns-clause-symbols
returns-clause-symbols c esi weights at less =
    let w : List ℕ = c.args.weights.now in
    let place : ℕ = c.args.start + at in
    let within : at < length c.args.out.now = omega (arith, less, c.loop-i.invariant.full) in
    let all : c.loop-i.i ≡ c.k-i-end.result = omega arith in
    weighed_is_symbol c.args.block.now place esi c.k-i-end.result (get_or c.loop-i.out at 0)
    w c.k-i-end.ensures.rows weights c.k-i-end.ensures.count (omega arith) (omega (arith, within, c.requires.part))
    (c.loop-i.invariant.sums at within ∙ ap (weighed_bytes w (column (rows_of c.args.block.now) place)) all)
