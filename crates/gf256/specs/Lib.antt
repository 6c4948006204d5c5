pub mod Field
pub mod Inner
pub mod Polynomial
pub mod Row
