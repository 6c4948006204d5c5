-- What differs from the symbol differs from its row.
use Rattle.std.proofs.Common.{◌≡◌, Some, None, get_or, ap, subst, sym, ◌∙◌, arith}
use Rattle.std.specs.List.{position_from, zip}
use Rattle.std.proofs.lemmas.List.{get_or_default}
use Rattle.gf256.specs.Polynomial.{AreBytes}
use Rattle.wire_bytes.specs.Bytes.{zero_filled}
use Rattle.rs_code.specs.SourceRows.{Rows, AreRows}
use Rattle.object_store.specs.Inner.BlockRows.{symbol_row}
use Rattle.object_store.proofs.Differences.{differ, first_of_symbol}
use Rattle.object_store.proofs.difference.repair_difference.Goals as goal

pub returns-in-Some : goal.returns-in-Some
returns-in-Some c =
    let xs = c.args.source.now in
    let is = c.new.ensures in
    let bytes : AreBytes xs = λ i d less. let same : get_or xs i d ≡ get_or xs i 0 = get_or_default xs i d 0 less in omega (arith, (c.type_inv.source i).fits) in
    first_of_symbol c.new.result c.args.esi c.args.symbol.now (Some c.in-Some.at)
    (subst AreRows (sym is) (record { some = c.requires.some; wide = c.requires.size; whole = c.requires.source; bytes = bytes }))
    (omega (arith, c.ranges.k.fits, ap (λ (r : Rows). r.k) is)) (omega (arith, c.requires.symbol, ap (λ (r : Rows). r.size) is))
    c.in-Some.ensures.before c.in-Some.ensures.differs
    ∙ ap (λ (r : Rows). position_from differ 0 (zip (symbol_row r.k r.size r.bytes c.args.esi) (zero_filled r.size c.args.symbol.now))) is

pub returns-in-None : goal.returns-in-None
returns-in-None c =
    let xs = c.args.source.now in
    let is = c.new.ensures in
    let bytes : AreBytes xs = λ i d less. let same : get_or xs i d ≡ get_or xs i 0 = get_or_default xs i d 0 less in omega (arith, (c.type_inv.source i).fits) in
    first_of_symbol c.new.result c.args.esi c.args.symbol.now None
    (subst AreRows (sym is) (record { some = c.requires.some; wide = c.requires.size; whole = c.requires.source; bytes = bytes }))
    (omega (arith, c.ranges.k.fits, ap (λ (r : Rows). r.k) is)) (omega (arith, c.requires.symbol, ap (λ (r : Rows). r.size) is))
    c.in-None.ensures.before c.in-None.ensures.differs
    ∙ ap (λ (r : Rows). position_from differ 0 (zip (symbol_row r.k r.size r.bytes c.args.esi) (zero_filled r.size c.args.symbol.now))) is
