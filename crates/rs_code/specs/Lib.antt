pub mod Symbol
pub mod SourceRows
pub mod Interpolation
pub mod Weights
pub mod Inner
