pub mod Listens
pub mod ListensBest
pub mod Runs
pub mod Tasks
