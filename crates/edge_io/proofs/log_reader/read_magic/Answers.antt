use Rattle.std.proofs.Common.{◌∙◌, rules}
use Rattle.edge_io.proofs.Fills.{magic_read}
use Rattle.edge_io.proofs.log_reader.read_magic.Goals as goal

pub returns-clause-magic : goal.returns-clause-magic
returns-clause-magic g c = λ t. c.starts_with.ensures.value ∙ magic_read c.in_ok-got.got c.fill.new.out _ _ _ (search rules) (c.in_ok-got.ensures.filled t)
