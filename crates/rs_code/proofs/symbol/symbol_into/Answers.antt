-- A source row is its symbol, and the weighed rows are theirs.
use Rattle.std.proofs.Common.{◌≡◌, ◌+◌, ℕ, List, get_or, ap, sym, subst, ◌∙◌, arith}
use Rattle.std.specs.List.{range_with_len}
use Rattle.rs_code.specs.SourceRows.{column, rows_of}
use Rattle.rs_code.specs.Symbol.{IsSymbol}
use Rattle.rs_code.specs.Weights.{AreWeights}
use Rattle.rs_code.proofs.BlockSymbols.{row_is_symbol}
use Rattle.rs_code.proofs.symbol.symbol_into.Goals as goal

pub returns-then-esi-k : goal.returns-then-esi-k
returns-then-esi-k c = record {
  full = c.copy_from_slice.ensures.len ∙ c.requires.size;
  symbols = λ at less.
      row_is_symbol c.args.block.now at c.args.esi c.k.result (get_or c.copy_from_slice.new.self at 0) c.k.ensures.rows c.k.ensures.count (omega arith) less (omega arith)
      (ap (λ xs. get_or xs at 0) c.copy_from_slice.ensures.after ∙ c.row.ensures.bytes at less);
}

pub returns-else-esi-k : goal.returns-else-esi-k
returns-else-esi-k c =
    let b = c.args.block.now in
    let weights = subst (λ (w : List ℕ). AreWeights (range_with_len 0 b.k) c.args.esi w) (sym c.as_slice.ensures.value) c.weights.ensures.weights in record {
      full = c.weigh_rows.ensures.long ∙ c.requires.size;
      symbols = λ at less.
          let zero : 0 + at ≡ at = omega arith in
          subst (λ (n : ℕ). IsSymbol (column (rows_of b) n) c.args.esi (get_or c.weigh_rows.new.out at 0)) zero
          (c.weigh_rows.ensures.symbols c.args.esi weights at (omega (arith, less, c.weigh_rows.ensures.long, c.requires.size)));
    }
