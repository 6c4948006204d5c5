-- A source symbol is its row.
use Rattle.std.proofs.Common.{◌≡◌, ℕ, ◌+◌, ◌*◌, ◌<◌, List, length, get_or, sym, ap, ◌∙◌, arith, inl, inr}
use Rattle.std.proofs.lemmas.Bool.{cases_lt}
use Rattle.std.proofs.lemmas.List.{length-replicate, get_or-replicate, get_or_past}
use Rattle.oti_blocks.specs.Partition.{sources, size_at, start_at, symbol_of}
use Rattle.oti_blocks.specs.Sent.{Sent, block_rows}
use Rattle.oti_blocks.proofs.Public.{encoding_at_bounds}
use Rattle.rs_code.specs.SourceRows.{column}
use Rattle.object_symbols.proofs.Rows.{source_within, sources_fit, length-block_rows, few_rows, get_or-block_rows, block_rows_bytes}
use Rattle.object_symbols.proofs.SymbolRows.{symbol_of_source, row_by_symbols}
use Rattle.object_symbols.proofs.symbol.symbol_into.Goals as goal

-- the row is one of the block's
row_within : (c : goal.After-from) → c.block_start.result + c.from.result < sources c.args.oti.now
row_within c =
    let o = c.args.oti.now in
    let below : c.args.esi < size_at o c.args.sbn = omega (arith, c.block_k-k.ensures.value) in
    omega (arith, c.block_start.ensures, source_within o c.args.sbn c.args.esi c.requires.object.sound c.requires.block below)

pub overflow_add-number : goal.overflow_add-number
overflow_add-number c = omega (arith, row_within c, sources_fit c.args.oti.now c.requires.object.sound)

pub source_symbol-requires-clause-within : goal.source_symbol-requires-clause-within
source_symbol-requires-clause-within c = row_within c

pub make-requires-clause-esi : goal.make-requires-clause-esi
make-requires-clause-esi c =
    let o = c.args.oti.now in
    let most = (encoding_at_bounds o c.requires.object.sound c.args.sbn c.requires.block).1 in
    omega (arith, most, c.requires.place, c.requires.object.sound.max_n_fits)

pub returns-then-esi-k : goal.returns-then-esi-k
returns-then-esi-k c =
    let x : Sent = record { oti = c.args.oti.now; bytes = c.args.bytes.now } in
    let b = c.args.sbn in
    let i = c.args.esi in
    let full : length c.args.out.now ≡ symbol_of x.oti = ap length c.requires.zero ∙ length-replicate (symbol_of x.oti) 0 in
    let few = few_rows x b c.requires.object c.requires.block in
    let number : c.block_start.result + c.from.result ≡ start_at x.oti b + i = omega (arith, c.block_start.ensures) in
    let below : i < size_at x.oti b = omega (arith, c.block_k-k.ensures.value) in
    row_by_symbols (block_rows x b) (symbol_of x.oti) i c.copy_front.new.out (c.copy_front.ensures.len ∙ full)
    (λ at less.
    let len = length-block_rows x b at in
    let copied : get_or c.copy_front.new.out at 0 ≡ get_or c.source_symbol.result.now at 0 = elim (cases_lt at (length c.source_symbol.result.now)) [
      | inl front ↦ c.copy_front.ensures.front at front
      | inr past ↦ c.copy_front.ensures.rest at past
          ∙ ap (λ (xs : List ℕ). get_or xs at 0) c.requires.zero
          ∙ get_or-replicate (symbol_of x.oti) at 0 0 less
          ∙ sym (get_or_past c.source_symbol.result.now at 0 past)
    ] in
    copied
    ∙ c.source_symbol.ensures.bytes at less
    ∙ ap (λ n. get_or x.bytes (n * symbol_of x.oti + at) 0) number
    ∙ sym (get_or-block_rows x b i at below less)
    ∙ sym (symbol_of_source (column (block_rows x b) at) i (block_rows_bytes x b at c.requires.object less) (omega (arith, len, few)) (omega (arith, len, below))))
