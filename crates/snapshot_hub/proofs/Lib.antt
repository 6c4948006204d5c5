pub mod Prefixes
pub mod Rising
pub mod Sound
pub mod Known
pub mod Adding
pub mod Longer
pub mod Overtaking
pub mod Public
