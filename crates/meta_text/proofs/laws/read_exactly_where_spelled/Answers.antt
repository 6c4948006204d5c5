use Rattle.meta_text.proofs.Spelled.{read_where_spelled}
use Rattle.meta_text.proofs.laws.read_exactly_where_spelled.Goals as goal

pub returns : goal.returns
returns c text pairs = read_where_spelled text pairs
