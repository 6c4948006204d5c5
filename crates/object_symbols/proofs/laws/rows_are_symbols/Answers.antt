-- The law is a lemma.
use Rattle.object_symbols.proofs.SymbolRows.{symbol_row_is}
use Rattle.object_symbols.proofs.laws.rows_are_symbols.Goals as goal

pub returns : goal.returns
returns w rows size j bytes few = symbol_row_is rows size j bytes few
