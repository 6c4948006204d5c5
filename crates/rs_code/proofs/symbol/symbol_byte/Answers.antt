-- One more weighed byte, and at the end the symbol.
use Rattle.std.proofs.Common.{◌≡◌, ℕ, List, get_or, refl, ap, ◌∙◌, bit_xor, arith}
use Rattle.rs_code.specs.Interpolation.{field_sum}
use Rattle.rs_code.specs.SourceRows.{column, rows_of}
use Rattle.rs_code.specs.Weights.{weighed_bytes}
use Rattle.rs_code.proofs.Weighing.{weighed_more}
use Rattle.rs_code.proofs.BlockSymbols.{weighed_is_symbol}
use Rattle.rs_code.proofs.symbol.symbol_byte.Goals as goal

pub loop-i-init : goal.loop-i-init
unfolding weighed_bytes field_sum
loop-i-init c = refl

pub loop-i-preserved : goal.loop-i-preserved
loop-i-preserved c =
    let s : List ℕ = column (rows_of c.args.block.now) c.args.at in
    let w : List ℕ = c.weights.new.out.items in
    let weight_is : get_or c.deref.result.now c.from.result 0 ≡ get_or w c.loop-i.i 0 =
    ap (λ xs. get_or xs c.from.result 0) c.deref.ensures.0 ∙ ap (λ i. get_or w i 0) c.from.ensures
    in
    weighed_more w s c.loop-i.i c.loop-i.sum.0 (get_or c.deref.result.now c.from.result 0) c.byte.result c.add-sum.result.0
    weight_is c.byte.ensures c.loop-i.invariant (c.add-sum.ensures ∙ ap (bit_xor c.loop-i.sum.0) c.mul.ensures)

pub returns : goal.returns
returns c =
    let s : List ℕ = column (rows_of c.args.block.now) c.args.at in
    let w : List ℕ = c.weights.new.out.items in
    let all : c.loop-i.i ≡ c.k-i-end.result = omega arith in
    weighed_is_symbol c.args.block.now c.args.at c.args.esi c.k-i-end.result c.loop-i.sum.0
    w c.k-i-end.ensures.rows c.weights.ensures.weights c.k-i-end.ensures.count (omega arith)
    c.requires.place (c.loop-i.invariant ∙ ap (weighed_bytes w s) all)
