-- What the proofs of other crates may cite.
pub use Rattle.object_symbols.proofs.Rows.{length-block_rows, few_rows, get_or-block_rows, block_rows_bytes}
pub use Rattle.object_symbols.proofs.SymbolRows.{symbol_of_source, length-symbol_row, get_or-symbol_row, symbol_row_of_bytes}
