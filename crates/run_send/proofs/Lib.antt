pub mod Asked
pub mod Sends
