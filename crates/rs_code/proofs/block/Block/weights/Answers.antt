-- As many weights as places, which are the block's rows.
use Rattle.std.proofs.Common.{length, ap, ◌∙◌}
use Rattle.std.proofs.lemmas.List.FromFn.{length-range_with_len}
use Rattle.rs_code.specs.SourceRows.{Rows}
use Rattle.rs_code.proofs.block.Block.weights.Goals as goal

pub returns-clause-count : goal.returns-clause-count
returns-clause-count c =
    c.weights.ensures.count ∙ ap length c.self.invariant.1 ∙ length-range_with_len 0 c.self.inside.k ∙ ap (λ (r : Rows). r.k) c.self.view_is
