pub mod Solution
pub mod Inner
