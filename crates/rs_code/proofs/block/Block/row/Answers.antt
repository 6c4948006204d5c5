-- The bytes of the row are those of the columns.
use Rattle.std.proofs.Common.{◌+◌, ◌-◌, ◌*◌, ◌<◌, ℕ, get_or, drop, sym, ap, ◌∙◌, subst, arith, get_or-take, get_or-drop}
use Rattle.rs_code.specs.SourceRows.{Rows, column, rows_of}
use Rattle.rs_code.proofs.Cuts.{get_or-column}
use Rattle.rs_code.proofs.block.Block.row.Goals as goal

pub returns-clause-bytes : goal.returns-clause-bytes
returns-clause-bytes c at less =
    let b = c.self.inside in
    let start : ℕ = c.from.result * b.size in
    let row : c.args.i < b.k = subst (λ (r : Rows). c.args.i < r.k) (sym c.self.view_is) c.requires in
    let place : at < b.size = subst (λ (r : Rows). at < r.size) (sym c.self.view_is) less in
    let within : at < c.from.result * b.size + b.size - c.from.result * b.size = omega arith in
    get_or-take (start + b.size - start) (drop start b.bytes.now) at 0 within
    ∙ get_or-drop start b.bytes.now at 0
    ∙ ap (λ n. get_or b.bytes.now (n * b.size + at) 0) c.from.ensures
    ∙ sym (get_or-column b.k b.size at c.args.i b.bytes.now row place)
    ∙ ap (λ (r : Rows). get_or (column (rows_of r) at) c.args.i 0) c.self.view_is
