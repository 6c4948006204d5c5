use Rattle.compound_object.proofs.Spelled.{read_where_spelled_so}
use Rattle.compound_object.proofs.laws.read_exactly_where_spelled.Goals as goal

pub returns : goal.returns
returns c object parts bytes = read_where_spelled_so object parts bytes
