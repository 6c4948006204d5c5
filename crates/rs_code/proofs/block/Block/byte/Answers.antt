-- The byte of the column is the byte at row times size plus place.
use Rattle.std.proofs.Common.{◌+◌, ◌*◌, ◌<◌, get_or, sym, ap, ◌∙◌, subst}
use Rattle.rs_code.specs.SourceRows.{Rows, column, rows_of}
use Rattle.rs_code.proofs.Cuts.{get_or-column}
use Rattle.rs_code.proofs.block.Block.byte.Goals as goal

pub returns : goal.returns
returns c =
    let b = c.self.inside in
    let row : c.args.i < b.k = subst (λ (r : Rows). c.args.i < r.k) (sym c.self.view_is) c.requires.row in
    let place : c.args.at < b.size = subst (λ (r : Rows). c.args.at < r.size) (sym c.self.view_is) c.requires.place in
    ap (λ n. get_or b.bytes.now (n * b.size + c.args.at) 0) c.from.ensures
    ∙ sym (get_or-column b.k b.size c.args.at c.args.i b.bytes.now row place)
    ∙ ap (λ (r : Rows). get_or (column (rows_of r) c.args.at) c.args.i 0) c.self.view_is
