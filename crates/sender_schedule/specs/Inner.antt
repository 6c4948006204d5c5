pub mod Sending
pub mod Rest
