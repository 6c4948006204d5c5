-- A symbol below k is a source row.
use Rattle.std.proofs.Common.{◌≡◌, ◌+◌, ◌-◌, ◌*◌, ℕ, List, ap, sym, ◌∙◌, arith, take, drop, get_or}
use Rattle.std.specs.List.{position_from, zip}
use Rattle.std.proofs.lemmas.List.{get_or_default}
use Rattle.gf256.specs.Polynomial.{AreBytes}
use Rattle.wire_bytes.specs.Bytes.{zero_filled}
use Rattle.rs_solve.specs.Solution.{row_at}
use Rattle.object_store.specs.Inner.BlockRows.{symbol_row}
use Rattle.object_store.proofs.Differences.{differ, pairs}
use Rattle.object_store.proofs.SymbolRows.{length-symbol_row, symbol_row_source}
use Rattle.object_store.proofs.difference.symbol_difference.Goals as goal

pub returns-then-esi-k : goal.returns-then-esi-k
returns-then-esi-k c =
    let xs = c.args.source.now in
    let start = c.from.result * c.from-width.result in
    let bytes : AreBytes xs = λ i d less. let is : get_or xs i d ≡ get_or xs i 0 = get_or_default xs i d 0 less in omega (arith, (c.type_inv.source i).fits) in
    let one : start + c.from-width.result - start ≡ c.args.size = omega (arith, c.from-width.ensures) in
    let row_is = ap (λ (n : ℕ). take n (drop start xs)) one
    ∙ ap (λ (n : ℕ). take c.args.size (drop (c.from.result * n) xs)) c.from-width.ensures
    ∙ ap (row_at c.args.size xs) c.from.ensures
    ∙ sym (symbol_row_source c.args.k c.args.size c.args.esi xs (omega (arith, c.ranges.k.fits)) bytes (omega (arith, c.requires.source)) c.if-esi-k.true) in
    c.row_difference.ensures ∙ ap (λ (r : List ℕ). position_from differ 0 (pairs r c.args.symbol.now)) row_is
    ∙ ap (λ (n : ℕ). position_from differ 0 (zip (symbol_row c.args.k c.args.size xs c.args.esi) (zero_filled n c.args.symbol.now)))
    (length-symbol_row c.args.k c.args.size c.args.esi xs)
