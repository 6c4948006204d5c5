pub mod Inner
pub mod Ranges
pub mod Send
