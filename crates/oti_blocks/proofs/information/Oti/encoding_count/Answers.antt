use Rattle.std.proofs.Common.{refl, ap}
use Rattle.oti_blocks.specs.Scheme.{ObjectInformation, encoding_count}
use Rattle.oti_blocks.proofs.information.Oti.encoding_count.Goals as goal

pub returns-clause-value : goal.returns-clause-value
unfolding encoding_count
returns-clause-value c =
    let most = ap (λ (o : ObjectInformation). o.max_n) c.self.view_is in
    let block = ap (λ (o : ObjectInformation). o.max_block) c.self.view_is in
    rw (c.from.ensures, c.from-2.ensures, c.from-3.ensures, most, block) refl
