use Rattle.std.proofs.Common.{arith}
use Rattle.lct_header.proofs.Splitting.{extensions_in-area, area_count}
use Rattle.lct_header.proofs.header.extensions.Goals as goal

pub returns-clause-all : goal.returns-clause-all
returns-clause-all c =
    let is = c.view.invariant.extensions in
    rw (extensions_in-area c.view.inside.area.now is.0 is.1, ← c.view.view_is) is.1

pub returns-clause-few : goal.returns-clause-few
returns-clause-few c =
    let is = c.view.invariant.extensions in
    let count = area_count is.0 c.view.inside.area.now is.1 in
    rw (extensions_in-area c.view.inside.area.now is.0 is.1) (omega (arith, count, c.view.invariant.whole, c.view.invariant.most))
