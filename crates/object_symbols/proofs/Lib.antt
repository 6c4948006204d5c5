pub mod Rows
pub mod SymbolRows
pub mod Fronts
pub mod Public
