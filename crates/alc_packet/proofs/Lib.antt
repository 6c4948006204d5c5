pub mod Packets
pub mod Lines
pub mod Readings
pub mod Saying
pub mod OneAnswer
pub mod Written
pub mod Public
