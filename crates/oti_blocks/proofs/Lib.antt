pub mod Bounds
pub mod Quotients
pub mod Sizes
pub mod Soundness
pub mod Spelling
pub mod Public
