pub mod SymbolRow
