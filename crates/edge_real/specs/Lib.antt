pub mod Pacing
pub mod Placing
