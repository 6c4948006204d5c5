pub mod Listened
pub mod Noted
pub mod Public
