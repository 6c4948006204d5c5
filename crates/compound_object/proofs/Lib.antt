pub mod OnesSums
pub mod Refusals
pub mod Sayings
pub mod Layouts
pub mod Spelled
pub mod FirstCauses
pub mod Public
