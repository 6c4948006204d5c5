mod Siftings
pub mod Hearings
mod Steps
mod Diaries
pub mod Public
