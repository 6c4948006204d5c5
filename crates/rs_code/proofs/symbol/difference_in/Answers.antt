-- Each byte of the piece is compared with the symbol's.
use Rattle.std.proofs.Common.{rules, ◌≡◌, ◌+◌, ℕ, length, get_or, sym, ◌∙◌, arith}
use Rattle.rs_code.specs.SourceRows.{column, rows_of}
use Rattle.rs_code.proofs.Cuts.{length-column}
use Rattle.rs_code.proofs.Unique.{symbol_unique}
use Rattle.rs_code.proofs.BlockSymbols.{bytes_of_piece}
use Rattle.rs_code.proofs.symbol.difference_in.Goals as goal

pub overflow_add-start : goal.overflow_add-start
overflow_add-start c = omega (arith, c.requires.part, c.size-size.ensures, c.size-size.type_inv)

pub overflow_add-result : goal.overflow_add-result
overflow_add-result c = omega (arith, c.requires.part, c.size-size.ensures, c.size-size.type_inv)

pub returns-then-piece-i-clause-before : goal.returns-then-piece-i-clause-before
returns-then-piece-i-clause-before c esi weights =
    let long : length c.weigh_rows.new.out ≡ c.args.len = search rules in
    bytes_of_piece c.args.block.now c.args.start esi c.loop-i.i c.weigh_rows.new.out c.args.bytes.now (omega (arith, long))
    (c.weigh_rows.ensures.symbols esi weights) c.loop-i.invariant

pub returns-then-piece-i-clause-differs : goal.returns-then-piece-i-clause-differs
returns-then-piece-i-clause-differs c esi weights =
    let long : length c.weigh_rows.new.out ≡ c.args.len = search rules in
    let b = c.args.block.now in
    let place : ℕ = c.args.start + c.loop-i.i in
    let is = c.weigh_rows.ensures.symbols esi weights c.loop-i.i (omega (arith, long, c.loop-i-test.true)) in (
      omega (arith, c.loop-i-test.true),
      λ other. c.if-piece-i.true (symbol_unique (column (rows_of b) place) esi (get_or c.weigh_rows.new.out c.loop-i.i 0) (get_or c.args.bytes.now place 0)
          (omega (arith, length-column b.k b.size place b.bytes, c.weigh_rows.ensures.few)) is other ∙ sym c.byte_at.ensures),
    )

pub returns-clause-before : goal.returns-clause-before
returns-clause-before c esi weights =
    let long : length c.weigh_rows.new.out ≡ c.args.len = search rules in
    bytes_of_piece c.args.block.now c.args.start esi c.args.len c.weigh_rows.new.out c.args.bytes.now (omega (arith, long))
    (c.weigh_rows.ensures.symbols esi weights) (λ i less. c.loop-i.invariant i (omega (arith, less)))
