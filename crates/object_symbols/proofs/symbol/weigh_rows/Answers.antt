-- At each place one more weighed byte, and at the end the symbol.
use Rattle.std.proofs.Common.{◌≡◌, ℕ, ◌+◌, ◌*◌, ◌<◌, ◌≤◌, List, length, get_or, sym, ap, ◌∙◌, subst, arith}
use Rattle.std.specs.List.{range_with_len}
use Rattle.std.proofs.lemmas.List.{length-replicate, get_or-replicate}
use Rattle.std.proofs.lemmas.List.FromFn.{length-range_with_len}
use Rattle.oti_blocks.specs.Partition.{sources, size_at, start_at, symbol_of}
use Rattle.oti_blocks.specs.Sent.{Sent, block_rows}
use Rattle.rs_code.specs.Interpolation.{field_sum}
use Rattle.rs_code.specs.SourceRows.{column}
use Rattle.rs_code.specs.Weights.{AreWeights, weighed_bytes}
use Rattle.rs_code.proofs.Public.{weighed_more}
use Rattle.object_symbols.specs.declared.weights.WeightRow.{WeightRow}
use Rattle.object_symbols.proofs.Rows.{source_within, sources_fit, length-block_rows, few_rows, get_or-block_rows, block_rows_bytes}
use Rattle.object_symbols.proofs.SymbolRows.{symbol_of_weights, row_by_symbols}
use Rattle.object_symbols.proofs.symbol.weigh_rows.Goals as goal

-- the weights that were made last are those of the block's rows
are_weights : (w : WeightRow) (size : ℕ) → w.k ≡ size → 1 ≤ size → AreWeights (range_with_len 0 size) w.esi w.weights.items
are_weights w size same some = subst (λ n. AreWeights (range_with_len 0 n) w.esi w.weights.items) same (w.are (omega (arith, same, some)))

pub loop-i-init : goal.loop-i-init
unfolding weighed_bytes field_sum
loop-i-init c = record {
  full = ap length c.requires.zero ∙ length-replicate (symbol_of c.args.oti.now) 0;
  sums = λ at less. ap (λ (xs : List ℕ). get_or xs at 0) c.requires.zero ∙ get_or-replicate (symbol_of c.args.oti.now) at 0 0 less;
}

-- the row is one of the block's
row_within : (c : goal.After-from) → c.block_start-start.result + c.from.result < sources c.args.oti.now
row_within c =
    let o = c.args.oti.now in
    let below : c.loop-i.i < size_at o c.args.sbn = omega (arith, c.block_k-i-end.ensures.value) in
    omega (arith, c.block_start-start.ensures, source_within o c.args.sbn c.loop-i.i c.requires.object.sound c.requires.block below)

pub overflow_add-start : goal.overflow_add-start
overflow_add-start c = omega (arith, row_within c, sources_fit c.args.oti.now c.requires.object.sound)

pub source_symbol-row-requires-clause-within : goal.source_symbol-row-requires-clause-within
source_symbol-row-requires-clause-within c = row_within c

pub bounds-deref-from : goal.bounds-deref-from
bounds-deref-from c =
    let size = size_at c.args.oti.now c.args.sbn in
    let weights = are_weights c.args.weights.now size c.requires.weights (omega (arith, c.block_k-i-end.ensures.value, c.block_k-i-end.ensures.some)) in
    omega (arith, c.block_k-i-end.ensures.value, weights.count, length-range_with_len 0 size, ap length c.deref.ensures.0)

pub loop-i-preserved : goal.loop-i-preserved
loop-i-preserved c =
    let x : Sent = record { oti = c.args.oti.now; bytes = c.args.bytes.now } in
    let b = c.args.sbn in
    let w : List ℕ = c.args.weights.now.weights.items in
    record {
      full = c.add_front.ensures.len ∙ c.loop-i.invariant.full;
      sums = λ at less.
          let number : c.block_start-start.result + c.from.result ≡ start_at x.oti b + c.loop-i.i = omega (arith, c.block_start-start.ensures) in
          let byte : get_or c.source_symbol-row.result.now at 0 ≡ get_or (column (block_rows x b) at) c.loop-i.i 0 =
          c.source_symbol-row.ensures.bytes at less
          ∙ ap (λ n. get_or x.bytes (n * symbol_of x.oti + at) 0) number
          ∙ sym (get_or-block_rows x b c.loop-i.i at (omega (arith, c.block_k-i-end.ensures.value)) less) in
          let by : get_or c.deref.result.now c.from-in-loop-i.result 0 ≡ get_or w c.loop-i.i 0 =
          ap (λ (xs : List ℕ). get_or xs c.from-in-loop-i.result 0) c.deref.ensures.0 ∙ ap (λ n. get_or w n 0) c.from-in-loop-i.ensures in
          weighed_more w (column (block_rows x b) at) c.loop-i.i (get_or c.loop-i.out at 0)
          (get_or c.deref.result.now c.from-in-loop-i.result 0) (get_or c.source_symbol-row.result.now at 0) (get_or c.add_front.new.out at 0)
          by byte (c.loop-i.invariant.sums at less)
          (c.add_front.ensures.sums at (omega (arith, less, c.loop-i.invariant.full)));
    }

pub returns : goal.returns
returns c =
    let x : Sent = record { oti = c.args.oti.now; bytes = c.args.bytes.now } in
    let b = c.args.sbn in
    let w : WeightRow = c.args.weights.now in
    let few = few_rows x b c.requires.object c.requires.block in
    let all : c.loop-i.i ≡ size_at x.oti b = omega (arith, c.block_k-i-end.ensures.value) in
    let weights = are_weights w (size_at x.oti b) c.requires.weights (omega (arith, c.block_k-i-end.ensures.value, c.block_k-i-end.ensures.some)) in
    row_by_symbols (block_rows x b) (symbol_of x.oti) w.esi c.loop-i.out c.loop-i.invariant.full
    (λ at less.
    c.loop-i.invariant.sums at less
    ∙ ap (weighed_bytes w.weights.items (column (block_rows x b) at)) all
    ∙ symbol_of_weights (column (block_rows x b) at) w.weights.items (size_at x.oti b) w.esi
    (block_rows_bytes x b at c.requires.object less) few (length-block_rows x b at) weights)
