-- The polynomial has there the byte's value.
use Rattle.std.proofs.Common.{◌∙◌}
use Rattle.rs_code.proofs.laws.source_symbols.Goals as goal

pub returns : goal.returns
returns w s i v less p = p.symbol ∙ p.source i less
