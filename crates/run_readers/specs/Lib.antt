pub mod Inner
pub mod Listens
pub mod ReaderLines
